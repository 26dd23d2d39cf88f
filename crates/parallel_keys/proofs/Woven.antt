-- The lists of workers, put in order of index.
use Rattle.std.proofs.Common.{ℕ, ◌≡◌, ◌+◌, ◌/◌, ◌%◌, ◌<◌, List, [], ◌∷◌, ◌++◌, Some, length, inl, inr, subst, sym, ap, refl, ◌∙◌, length-append}
use Rattle.std.specs.List.{slice_get}
use Rattle.std.proofs.Math.Nat.{mod-add-div'}
use Rattle.tag.proofs.Lists.{push_cases}
use Rattle.tag.specs.declared.numbers.OpId.{OpId}
use Rattle.recorder.specs.declared.part.Call.{Call}
use Rattle.certificate_check.specs.declared.verdict.Verdict.{Verdict}
use Rattle.parallel_keys.specs.declared.check.KeyVerdict.{KeyVerdict}
use Rattle.parallel_keys.specs.IndexVerdicts.{IsVerdictAt, AreLists}

-- the verdicts at the indexes below that one
pub record VerdictsSoFar (parts : List (List Call)) (orders : List (List OpId)) (index : ℕ) (verdicts : List KeyVerdict) : Type 0 where
  pub all : length verdicts ≡ index
  pub each : (i : ℕ) (one : KeyVerdict) → slice_get verdicts i ≡ Some one → (one.index ≡ i) × IsVerdictAt parts orders i one.verdict

module _ (parts : List (List Call)) (orders : List (List OpId)) where
  pub woven_none : (index : ℕ) (verdicts : List KeyVerdict) → index ≡ 0 → verdicts ≡ [] → VerdictsSoFar parts orders index verdicts
  woven_none index verdicts first none = record {
    all = rw (none, first) refl;
    each = λ i one at. let no : slice_get [] i ≡ Some one = rw none at at in absurd (nothing i one no);
  }
    where
      nothing : (i : ℕ) (one : KeyVerdict) → slice_get [] i ≡ Some one → ⊥
      nothing i one h = cc

  pub woven_more : (index after : ℕ) (verdicts new : List KeyVerdict) (one : KeyVerdict) → VerdictsSoFar parts orders index verdicts → one.index ≡ index → IsVerdictAt parts orders index one.verdict → after ≡ index + 1 → new ≡ verdicts ++ one ∷ [] → VerdictsSoFar parts orders after new
  woven_more index after verdicts new one so_far at_index checked later grown = record {
    all = ap length grown ∙ length-append verdicts (one ∷ []) ∙ ap (λ n. n + 1) so_far.all ∙ sym later;
    each = λ i told at. elim (push_cases verdicts one i told (subst (λ (l : List KeyVerdict). slice_get l i ≡ Some told) grown at)) [
      | inl it ↦ so_far.each i told it
      | inr it ↦ let here : i ≡ index = it.0 ∙ so_far.all in rw (sym it.1, here) (at_index, checked)
    ];
  }

  -- the list of the worker whose index it is has the index's verdict
  pub own_turn : (lists : List (List Verdict)) (k index : ℕ) (verdicts : List Verdict) → AreLists parts orders k lists → index < length parts → slice_get lists (index % k) ≡ Some verdicts → index / k < length verdicts
  own_turn lists k index verdicts are below at = (are.each (index % k) verdicts at).all (index / k) (rw (mod-add-div' index k) below)

  pub own_verdict : (lists : List (List Verdict)) (k index : ℕ) (verdicts : List Verdict) (verdict : Verdict) → AreLists parts orders k lists → slice_get lists (index % k) ≡ Some verdicts → slice_get verdicts (index / k) ≡ Some verdict → IsVerdictAt parts orders index verdict
  own_verdict lists k index verdicts verdict are at here = rw (mod-add-div' index k) at ((are.each (index % k) verdicts at).each (index / k) verdict here)
