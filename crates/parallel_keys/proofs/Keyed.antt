-- Verdicts with their keys.
use Rattle.std.proofs.Common.{ℕ, ◌≡◌, ◌+◌, List, [], ◌∷◌, ◌++◌, Some, length, map, inl, inr, subst, sym, ap, refl, ◌∙◌, length-append}
use Rattle.std.specs.List.{slice_get}
use Rattle.std.specs.Option.{option_map}
use Rattle.std.proofs.lemmas.Option.{same_Some, slice_get-map}
use Rattle.tag.proofs.Lists.{push_cases}
use Rattle.parallel_keys.specs.IndexVerdicts.{IsVerdictAt}
use Rattle.certificate_check.specs.Verdicts.{IsVerdict}
use Rattle.certificate_check.specs.declared.verdict.Verdict.{Verdict}
use Rattle.parallel_keys.specs.CheckedKeys.{CheckedKey}
use Rattle.parallel_keys.specs.Histories.{KeyVerdicts}

-- the keys below that index have their verdicts
pub record KeyedSoFar (checked : List CheckedKey) (index : ℕ) (verdicts : KeyVerdicts) : Type 0 where
  pub all : length verdicts ≡ index
  pub each : (i : ℕ) (one : CheckedKey) (told : List ℕ × Verdict) → slice_get checked i ≡ Some one → slice_get verdicts i ≡ Some told → (told.0 ≡ one.key) × IsVerdict one.part one.order told.1

module _ (checked : List CheckedKey) where
  pub keyed_none : (index : ℕ) (verdicts : KeyVerdicts) → index ≡ 0 → verdicts ≡ [] → KeyedSoFar checked index verdicts
  keyed_none index verdicts first none = record {
    all = rw (none, first) refl;
    each = λ i one told at_one at. let no : slice_get [] i ≡ Some told = rw none at at in absurd (nothing i told no);
  }
    where
      nothing : (i : ℕ) (told : List ℕ × Verdict) → slice_get [] i ≡ Some told → ⊥
      nothing i told h = cc

  pub keyed_more : (index after : ℕ) (verdicts new : KeyVerdicts) (key : List ℕ) (verdict : Verdict) (one : CheckedKey) → KeyedSoFar checked index verdicts → slice_get checked index ≡ Some one → key ≡ one.key → IsVerdict one.part one.order verdict → after ≡ index + 1 → new ≡ verdicts ++ (key, verdict) ∷ [] → KeyedSoFar checked after new
  keyed_more index after verdicts new key verdict one so_far at_one same is later grown = record {
    all = ap length grown ∙ length-append verdicts ((key, verdict) ∷ []) ∙ ap (λ n. n + 1) so_far.all ∙ sym later;
    each = λ i other told at_other at. elim (push_cases verdicts (key, verdict) i told (subst (λ (l : KeyVerdicts). slice_get l i ≡ Some told) grown at)) [
      | inl it ↦ so_far.each i other told at_other it
      | inr it ↦
          let here : i ≡ index = it.0 ∙ so_far.all in
          let other_is : one ≡ other = same_one i other here at_other in
          rw (sym it.1, sym other_is) (same, is)
    ];
  }
    where
      same_one : (i : ℕ) (other : CheckedKey) → i ≡ index → slice_get checked i ≡ Some other → one ≡ other
      same_one i other here at = let twice : Some one ≡ Some other = sym at_one ∙ ap (slice_get checked) (sym here) ∙ at in cc

-- the verdict at a key's index is the key's
pub verdict_of : (keys : List CheckedKey) (index : ℕ) (key : CheckedKey) (verdict : Verdict) → slice_get keys index ≡ Some key → IsVerdictAt (map (λ (p : CheckedKey). p.part) keys) (map (λ (p : CheckedKey). p.order) keys) index verdict → IsVerdict key.part key.order verdict
verdict_of keys index key verdict here at =
    let part_is : at.part ≡ key.part = same_Some at.part key.part (sym at.part_at ∙ slice_get-map (λ (p : CheckedKey). p.part) keys index ∙ ap (option_map (λ (p : CheckedKey). p.part)) here) in
    let order_is : at.order ≡ key.order = same_Some at.order key.order (sym at.order_at ∙ slice_get-map (λ (p : CheckedKey). p.order) keys index ∙ ap (option_map (λ (p : CheckedKey). p.order)) here) in
    rw (part_is, order_is) at at.checked
