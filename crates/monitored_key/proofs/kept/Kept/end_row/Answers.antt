use Rattle.std.proofs.Common.{◌≡◌, ℕ, Option, Some, ap, sym, subst, ◌∙◌, refl}
use Rattle.key_monitor.specs.Follows.{Follows}
use Rattle.key_monitor.specs.Shown.{first_show}
use Rattle.monitored_key.specs.WritesOf.{kept_of}
use Rattle.monitored_key.specs.Maps.{entry_at}
use Rattle.monitored_key.proofs.Following.{state}
use Rattle.monitored_key.proofs.Rows.{first_is}
use Rattle.monitored_key.proofs.kept.Kept.end_row.Goals as goal

pub returns-clause-row : goal.returns-clause-row
returns-clause-row c =
    let s = c.args.self.now in
    let is : Some c.unwrap_or.result ≡ first_show s.first c.args.place = ap Some c.unwrap_or.ensures ∙ first_is s.first c.args.place in
    record {
      opens = c.forget.ensures.stays.opens;
      first = c.forget.ensures.stays.first ∙ is;
      next = c.forget.ensures.stays.next;
      number = c.forget.ensures.stays.number;
      fewer = c.forget.ensures.fewer;
      follows = λ part source f. c.forget.ensures.follows part source c.args.place refl
          (subst (λ (o : Option ℕ). Follows part source c.args.place (state s.zones (kept_of s.writes) (entry_at s.opens.entries) o))
          (sym is) f);
    }
