use Rattle.ak_merge.proofs.PartLaws.{numbers_make_no_difference, same_but_numbers}
use Rattle.ak_merge.proofs.part_laws.numbers_make_no_difference.Goals as goal

pub returns : goal.returns
returns c = record { any = numbers_make_no_difference; same = same_but_numbers }
