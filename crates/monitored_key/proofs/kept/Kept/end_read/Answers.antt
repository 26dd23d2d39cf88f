use Rattle.std.proofs.Common.{Bor, ℕ, List, Option, ap, sym, subst}
use Rattle.std.specs.Option.{option_copied}
use Rattle.monitored_key.specs.Followed.{JudgesRead}
use Rattle.monitored_key.specs.Kept.{key_of}
use Rattle.monitored_key.proofs.kept.Kept.end_read.Goals as goal

pub returns-in-None-clause-follows : goal.returns-in-None-clause-follows
returns-in-None-clause-follows c =
    subst (λ (v : Option (List ℕ)). JudgesRead (key_of c.args.self.now) (key_of c.end_nothing.new.self) c.args.begin v c.args.place
    c.end_nothing.result) (sym (ap (λ (o : Option (Bor (List ℕ))). option_copied o) c.in-None.is)) c.end_nothing.ensures.follows
