use Rattle.ak_lab_joins.proofs.Reading.{alone_reads, crossed_reads}
use Rattle.ak_lab_joins.proofs.lab_laws.syncs_get_no_bad_reply.Goals as goal

pub returns : goal.returns
returns c = record {
  alone = λ account name s t held texts outcome linked room plans holds formed ended. alone_reads account name s t held texts outcome linked room holds formed
      ended c.told_ends_have_causes.ensures.unread plans;
  others_cross = λ account name s t held texts outcome linked room holds formed ended fresh. crossed_reads account name s t held texts outcome linked room holds
      formed ended c.told_ends_have_causes.ensures.unread fresh;
}
