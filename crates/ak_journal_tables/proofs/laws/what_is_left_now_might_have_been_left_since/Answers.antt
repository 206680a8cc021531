use Rattle.ak_journal_tables.proofs.laws.what_is_left_now_might_have_been_left_since.Goals as goal

pub returns : goal.returns
returns g c = λ disk since image later left. g.met.D.Disk.counts_now disk since image later (g.met.D.Disk.only_now disk image left)
