-- The halls are drawn in turn, and what is left are the keys without calls.
use Rattle.std.proofs.Common.{◌<◌, ◌≤◌, nat_lt, ap, drop, map, take, ◌∙◌, length, arith}
use Rattle.parallel_keys.specs.CheckedKeys.{CheckedKey}
use Rattle.parallel_keys.specs.KeysToCheck.{what_of}
use Rattle.cli.specs.Hints.{has_note}
use Rattle.draw_command.proofs.Framing.{any_map}
use Rattle.whole_pictures.proofs.Halls.{begun, content_added, enough, of_hall, one_hall}
use Rattle.whole_pictures.proofs.page.add_halls.Goals as goal

pub loop-number-init : goal.loop-number-init
loop-number-init c =
    let task = c.args.task.now in
    let page = c.append_above.new.page.items in
    record {
      within = omega arith;
      way = begun task.numbered.now task.drawn (map what_of c.args.keys.now) c.requires.keys.0 page c.requires.keys.1;
    }

pub key_count-requires-clause-number : goal.key_count-requires-clause-number
key_count-requires-clause-number c = omega (arith, c.loop-number-test.true, ap length c.halls-halls.ensures.halls)

pub split_at-requires-in-loop-number : goal.split_at-requires-in-loop-number
split_at-requires-in-loop-number c =
    let task = c.args.task.now in
    let n = c.loop-number.number in
    let keys = c.args.keys.now in
    let below : n < length task.numbered.now.histories.halls = omega (arith, c.loop-number-test.true, ap length c.halls-halls.ensures.halls) in
    rw c.split_at.ensures.back
    (enough task.numbered.now task.drawn (map what_of keys) n c.in_ok-count.count (drop c.loop-number.from keys) c.loop-number.found
    c.append_above.new.page.items c.loop-number.page.items c.loop-number.invariant.way below c.in_ok-count.ensures)

pub add_section-requires-clause-number : goal.add_section-requires-clause-number
add_section-requires-clause-number c = omega (arith, c.loop-number-test.true, ap length c.halls-halls.ensures.halls)

pub add_section-requires-clause-keys : goal.add_section-requires-clause-keys
add_section-requires-clause-keys c =
    let task = c.args.task.now in
    let n = c.loop-number.number in
    let keys = c.args.keys.now in
    let below : n < length task.numbered.now.histories.halls = omega (arith, c.loop-number-test.true, ap length c.halls-halls.ensures.halls) in
    of_hall task.numbered.now task.drawn (map what_of keys) n c.in_ok-count.count (drop c.loop-number.from keys) c.loop-number.found
    c.append_above.new.page.items c.loop-number.page.items c.loop-number.invariant.way below c.in_ok-count.ensures c.split_at-in-loop-number.result.0.now
    (c.split_at-in-loop-number.ensures.front ∙ ap (take c.in_ok-count.count) c.split_at.ensures.back)

pub loop-number-preserved : goal.loop-number-preserved
loop-number-preserved c =
    let task = c.args.task.now in
    let n = c.loop-number.number in
    let keys = c.args.keys.now in
    let below : n < length task.numbered.now.histories.halls = omega (arith, c.loop-number-test.true, ap length c.halls-halls.ensures.halls) in
    rw c.with-found.ensures
    (one_hall task.numbered.now task.drawn (map what_of keys) keys n c.loop-number.from c.in_ok-count.count c.loop-number.found
    c.append_above.new.page.items c.loop-number.page.items c.loop-number.invariant below c.in_ok-count.ensures c.split_at.result.1.now
    c.split_at-in-loop-number.result.0.now c.in_ok-together.together c.add_section.new.page.items c.split_at.ensures.back c.split_at-in-loop-number.ensures.front
    c.in_ok-together.ensures.found c.in_ok-together.ensures.added)

pub returns : goal.returns
returns c =
    let task = c.args.task.now in
    let keys = c.args.keys.now in
    let n = c.loop-number.number in
    let all : length task.numbered.now.histories.halls ≤ n = omega (arith, c.loop-number-test.false, ap length c.halls-halls.ensures.halls) in
    rw c.with.ensures
    (content_added task.numbered.now task.drawn (map what_of keys) n (map what_of (drop c.loop-number.from keys))
    (map what_of c.split_at-2.result.1.now) c.loop-number.found c.in_ok-together-2.together c.args.page.now.items c.append_above.new.page.items
    c.loop-number.page.items c.add_others.new.page.items all (rw (
      c.have_calls-called.ensures ∙ any_map what_of (λ (one : CheckedKey). nat_lt 0 (length one.part)) keys,
      c.have_notes-tagged.ensures ∙ any_map what_of (λ (one : CheckedKey). has_note one.part) keys,
    ) at c.in_ok-append_above.ensures) c.loop-number.invariant.way
    (ap (map what_of) c.split_at-2.ensures.back) c.in_ok-together-2.ensures.found c.in_ok-together-2.ensures.added)
