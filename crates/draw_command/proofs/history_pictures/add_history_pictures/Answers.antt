-- The keys are those of the histories.
use Rattle.std.proofs.Common.{[], map}
use Rattle.tag.proofs.Options.{none_some}
use Rattle.recorder.specs.Records.{KeyedParts}
use Rattle.parallel_keys.specs.KeysToCheck.{what_of}
use Rattle.judged_keys.proofs.Ending.{have_keys}
use Rattle.draw_command.proofs.history_pictures.add_history_pictures.Goals as goal

pub keys_to_check-requires : goal.keys_to_check-requires
keys_to_check-requires c = λ i j a b lt at_i at_j same. none_some at_i

pub add_keys-requires-clause-keys : goal.add_keys-requires-clause-keys
add_keys-requires-clause-keys c = (
  [],
  have_keys c.args.numbered.now.histories c.halls.result.now (map (λ (p : KeyedParts). p.entries) c.in_ok-parts.parts.items) [] (map what_of c.in_ok-keys.keys.items) c.halls.ensures.lawful c.halls.ensures.halls c.in_ok-parts.ensures
      (rw c.as_slice.ensures.value at c.in_ok-keys.ensures),
)

pub returns : goal.returns
returns c =
    let added = c.in_ok-add_keys.ensures in
    let keys = map what_of c.in_ok-keys.keys.items in
    let are = have_keys c.args.numbered.now.histories c.halls.result.now (map (λ (p : KeyedParts). p.entries) c.in_ok-parts.parts.items) [] keys c.halls.ensures.lawful c.halls.ensures.halls c.in_ok-parts.ensures (rw c.as_slice.ensures.value at c.in_ok-keys.ensures) in
    (added.0, record { keys = keys; keys_are = are; shown = added.1.shown }, added.2)
