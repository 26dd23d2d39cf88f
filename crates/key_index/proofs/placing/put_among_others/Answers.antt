use Rattle.std.proofs.Common.{◌≤◌, sym, ◌∙◌, length, arith}
use Rattle.std.proofs.lemmas.Option.{none-some, same_Some, slice_get_past}
use Rattle.key_index.proofs.Searching.{found_at}
use Rattle.key_index.proofs.Placements.{known_more}
use Rattle.key_index.proofs.placing.put_among_others.Goals as goal

pub returns-in_ok-insert-clause-grows : goal.returns-in_ok-insert-clause-grows
returns-in_ok-insert-clause-grows c =
    let found = c.in-Some.ensures.lookup in
    let at = found_at c.args.keys.now c.args.number c.in-Some.key.now found.0 found.1 in
    known_more c.args.others.now c.insert.new.self c.args.keys.now c.in-Some.key.now c.args.number c.requires.distinct c.requires.right at
    (rw c.of.ensures at c.in_ok-insert.ensures.updates)

pub returns-in_ok-insert-clause-ok : goal.returns-in_ok-insert-clause-ok
returns-in_ok-insert-clause-ok c =
    let found = c.in-Some.ensures.lookup in
    let at = found_at c.args.keys.now c.args.number c.in-Some.key.now found.0 found.1 in
    let updates = rw c.of.ensures at c.in_ok-insert.ensures.updates in
    λ same there. rw (← (same_Some c.in-Some.key.now same (sym at ∙ there))) updates.1

pub returns-in_default-clause-ok : goal.returns-in_default-clause-ok
returns-in_default-clause-ok c =
    let keys = c.args.keys.now in
    let past : length keys ≤ c.args.number = omega (arith, c.in_default.ensures.lookup) in
    λ key at. absurd (none-some key (sym (slice_get_past keys c.args.number past) ∙ at))
