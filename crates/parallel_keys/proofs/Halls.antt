-- The parts of histories by hall.
use Rattle.std.proofs.Common.{ℕ, ◌≡◌, ◌<◌, ◌+◌, List, [], ◌∷◌, ◌++◌, inl, inr, length, map, take, get_or, subst, sym, ap, ◌∙◌, arith, length-append}
use Rattle.std.proofs.lemmas.List.{map-append}
use Rattle.std.proofs.lemmas.Option.{slice_get_within}
use Rattle.recorder.specs.Histories.{Recorded}
use Rattle.recorder.specs.Records.{AreParts}
use Rattle.tag.proofs.Lists.{push_cases}
use Rattle.parallel_keys.specs.CheckedKeys.{KeyParts}
use Rattle.parallel_keys.specs.Histories.{AreHallParts}
use Rattle.parallel_keys.proofs.Fronts.{front_more}

further : (histories : List Recorded) (parts : List KeyParts) (history : Recorded) (own : KeyParts) → AreHallParts histories parts → AreParts history.rows own → AreHallParts (histories ++ history ∷ []) (parts ++ own ∷ [])
further histories parts history own are recorded = record {
  all = length-append parts (own ∷ []) ∙ ap (λ n. n + 1) are.all ∙ sym (length-append histories (history ∷ []));
  each = λ hall h p at_h at_p. elim (push_cases histories history hall h at_h) [
    | inl v ↦ elim (push_cases parts own hall p at_p) [
      | inl w ↦ are.each hall h p v w
      | inr w ↦ absurd (omega (arith, slice_get_within histories hall h v, are.all, w.0))
    ]
    | inr v ↦ elim (push_cases parts own hall p at_p) [
      | inl w ↦ absurd (omega (arith, slice_get_within parts hall p w, are.all, v.0))
      | inr w ↦ rw (sym v.1, sym w.1) recorded
    ]
  ];
}

pub halls_more : {X : Type 0} (parts_in : X → KeyParts) (histories : List Recorded) (i : ℕ) (history : Recorded) (old new : List X) (own : X) → i < length histories → history ≡ get_or histories i history → AreHallParts (take i histories) (map parts_in old) → new ≡ old ++ own ∷ [] → AreParts history.rows (parts_in own) → AreHallParts (take (i + 1) histories) (map parts_in new)
halls_more parts_in histories i history old new own below is are grown recorded =
    subst (λ (l : List Recorded). AreHallParts l (map parts_in new)) (sym (front_more histories i history below is))
    (subst (λ (l : List KeyParts). AreHallParts (take i histories ++ history ∷ []) l) (sym (ap (map parts_in) grown ∙ map-append parts_in old (own ∷ [])))
    (further (take i histories) (map parts_in old) history (parts_in own) are recorded))
