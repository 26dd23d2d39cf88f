-- The keys of one history.
use Rattle.std.proofs.Common.{ℕ, ◌≡◌, ◌+◌, List, [], ◌∷◌, ◌++◌, Some, map, take, refl, sym, ap, ap₂, ◌∙◌}
use Rattle.std.specs.List.{slice_get}
use Rattle.std.specs.Option.{option_map}
use Rattle.std.proofs.lemmas.List.{map-append}
use Rattle.std.proofs.Common.{append_assoc}
use Rattle.std.proofs.lemmas.Option.{slice_get-map}
use Rattle.recorder.specs.declared.part.Call.{Call}
use Rattle.recorder.specs.declared.order.KeyOrder.{KeyOrder}
use Rattle.parallel_keys.specs.declared.collect_keys.KeyToCheck.{KeyToCheck}
use Rattle.parallel_keys.specs.CheckedKeys.{KeyParts, given_order, keys_in, recorded_key}
use Rattle.parallel_keys.specs.KeysToCheck.{what_of}
use Rattle.parallel_keys.proofs.Fronts.{mapped_at}

-- the key at a place
pub own_key_at : (entries : KeyParts) (place : ℕ) (entry : List ℕ × List Call) → slice_get entries place ≡ Some entry → slice_get (keys_in entries) place ≡ Some entry.0
own_key_at entries place entry at = slice_get-map (λ (e : List ℕ × List Call). e.0) entries place ∙ ap (option_map (λ (e : List ℕ × List Call). e.0)) at

-- a key more, with the order that is given for it
pub own_more : (orders : List KeyOrder) (entries : KeyParts) (place : ℕ) (entry : List ℕ × List Call) (one : KeyToCheck) (start : List _) (old new : List KeyToCheck) → slice_get entries place ≡ Some entry → one.key.now ≡ entry.0 → one.part ≡ entry.1 → one.order.now ≡ given_order orders entry.0 → map what_of old ≡ start ++ map (recorded_key orders) (take place entries) → new ≡ old ++ one ∷ [] → map what_of new ≡ start ++ map (recorded_key orders) (take (place + 1) entries)
own_more orders entries place entry one start old new at key part order so_far grown =
    ap (map what_of) grown ∙ map-append what_of old (one ∷ [])
    ∙ ap₂ (λ l k. l ++ k ∷ []) so_far (rw (key, part, order) refl)
    ∙ append_assoc start (map (recorded_key orders) (take place entries)) (recorded_key orders entry ∷ [])
    ∙ ap (λ l. start ++ l) (sym (mapped_at (recorded_key orders) entries place entry at))
