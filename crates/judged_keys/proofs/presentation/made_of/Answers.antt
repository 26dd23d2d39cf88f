-- The keys are those of the histories and the orders.
use Rattle.std.proofs.Common.{map, refl}
use Rattle.std.proofs.lemmas.Result.{IfOk-weaker}
use Rattle.recorder.specs.Records.{KeyedParts}
use Rattle.parallel_keys.specs.KeysToCheck.{what_of}
use Rattle.judged_keys.proofs.Ending.{have_keys}
use Rattle.judged_keys.proofs.presentation.made_of.Goals as goal

pub present-requires-clause-keys : goal.present-requires-clause-keys
present-requires-clause-keys g c =
    let files = c.args.files.now in (
      files.orders.items,
      have_keys files.numbered.histories c.halls.result.now (map (λ (p : KeyedParts). p.entries) c.in_ok-parts.parts.items) files.orders.items (map what_of c.in_ok-keys.keys.items)
          c.halls.ensures.lawful c.halls.ensures.halls c.in_ok-parts.ensures (rw (c.as_slice.ensures.value, c.as_slice-2.ensures.value) at c.in_ok-keys.ensures),
    )

pub returns-clause-made : goal.returns-clause-made
returns-clause-made g c =
    let files = c.args.files.now in
    IfOk-weaker c.present.result _ _ (λ outcome made. record {
      numbered = files.numbered;
      keys = map what_of c.in_ok-keys.keys.items;
      read = record {
        same = refl;
        keys_are = have_keys files.numbered.histories c.halls.result.now (map (λ (p : KeyedParts). p.entries) c.in_ok-parts.parts.items) files.orders.items (map what_of c.in_ok-keys.keys.items)
            c.halls.ensures.lawful c.halls.ensures.halls c.in_ok-parts.ensures (rw (c.as_slice.ensures.value, c.as_slice-2.ensures.value) at c.in_ok-keys.ensures);
      };
      made = made;
    }) c.present.ensures.made
