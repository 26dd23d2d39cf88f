use Rattle.std.proofs.Common.{◌≡◌, map, true, false, rules, sym}
use denote.Enum.Bare.{same_true, same_false}
use Rattle.cli.specs.contracts.outcome.Found.{the_type}
use Rattle.cli.specs.declared.outcome.Found.TheVariants as found
use Rattle.parallel_keys.specs.CheckedKeys.{all_parts}
use Rattle.cli.specs.Hints.{have_notes}
use Rattle.cli.proofs.Hinting.{hint_told, nothing_told}
use Rattle.cli.proofs.notes.hinted.Goals as goal
use Rattle.cli.proofs.notes.hinted.Goals.{then-people+then-eq+then-not-have_notes+in_ok-append, else-people}
use Rattle.cli.proofs.notes.hinted.Goals.{else-people-via-then-people+then-eq+else-not-have_notes}
use Rattle.cli.proofs.notes.hinted.Goals.{else-people-via-then-people+else-eq, else-people-via-else-people}

pub returns-clause-notes : goal.returns-clause-notes
returns-clause-notes c =
    let parts = all_parts (map (λ p. p.entries) c.args.parts.now) in
    let untold = nothing_told c.args.people c.args.outcome.found parts c.args.outcome.notes.items in
    elim c.if-people.branch [
      | then-people+then-eq+then-not-have_notes+in_ok-append w ↦
          let refused : c.args.outcome.found ≡ found.Refused =
          same_true the_type (search rules) c.args.outcome.found found.Refused (sym w.if-eq.ensures) in
          let none : have_notes parts ≡ false = sym w.if-not-have_notes.ensures in
          hint_told c.args.people c.args.outcome.found parts c.args.outcome.notes.items c.if-people.notes.items
          w.if-people.true refused none (rw w.notes-is w.in_ok-append.ensures)
      | else-people w ↦ elim w.else-people.branch [
        | else-people-via-then-people+then-eq+else-not-have_notes w' ↦
            let some : have_notes parts ≡ true = sym w'.if-not-have_notes.ensures in
            rw w.notes-is (untold (λ asked refused none. absurd (cc)))
        | else-people-via-then-people+else-eq w' ↦
            let other = same_false the_type c.args.outcome.found found.Refused (sym w'.if-eq.ensures) in
            rw w.notes-is (untold (λ asked refused none. other refused))
        | else-people-via-else-people w' ↦
            rw w.notes-is (untold (λ asked refused none. let unasked = w'.if-people.false in absurd (cc)))
      ]
    ]
