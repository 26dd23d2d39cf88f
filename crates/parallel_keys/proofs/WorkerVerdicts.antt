-- The verdicts of a worker.
use Rattle.std.proofs.Common.{ℕ, ◌≡◌, ◌+◌, ◌*◌, ◌≤◌, List, [], ◌∷◌, ◌++◌, Some, length, inl, inr, subst, sym, ap, refl, ◌∙◌, arith, length-append}
use Rattle.std.specs.List.{slice_get}
use Rattle.std.proofs.Math.Nat.{lt_of_mul-lt-mul_right}
use Rattle.tag.proofs.Lists.{push_cases}
use Rattle.tag.specs.declared.numbers.OpId.{OpId}
use Rattle.recorder.specs.declared.part.Call.{Call}
use Rattle.certificate_check.specs.declared.verdict.Verdict.{Verdict}
use Rattle.parallel_keys.specs.IndexVerdicts.{IsVerdictAt, AreOfWorker, AreLists, AreFirstLists}

-- the verdicts that a worker has made, and the index that is next
pub record VerdictsSoFar (parts : List (List Call)) (orders : List (List OpId)) (w k next : ℕ) (verdicts : List Verdict) : Type 0 where
  pub next_at : next ≡ w + length verdicts * k
  pub each : (number : ℕ) (verdict : Verdict) → slice_get verdicts number ≡ Some verdict → IsVerdictAt parts orders (w + number * k) verdict

module _ (parts : List (List Call)) (orders : List (List OpId)) (w k : ℕ) where
  pub verdicts_none : (next : ℕ) (verdicts : List Verdict) → next ≡ w → verdicts ≡ [] → VerdictsSoFar parts orders w k next verdicts
  verdicts_none next verdicts first none = record {
    next_at = rw none (omega arith);
    each = λ number verdict at. let no : slice_get [] number ≡ Some verdict = rw none at at in absurd (nothing number verdict no);
  }
    where
      nothing : (number : ℕ) (verdict : Verdict) → slice_get [] number ≡ Some verdict → ⊥
      nothing number verdict h = cc

  pub verdicts_more : (next after : ℕ) (verdicts new : List Verdict) (verdict : Verdict) → VerdictsSoFar parts orders w k next verdicts → IsVerdictAt parts orders next verdict → after ≡ next + k → new ≡ verdicts ++ verdict ∷ [] → VerdictsSoFar parts orders w k after new
  verdicts_more next after verdicts new verdict so_far checked later grown = record {
    next_at = later ∙ ap (λ n. n + k) so_far.next_at ∙ one_more (length verdicts) ∙ ap (λ n. w + n * k) (sym (ap length grown ∙ length-append verdicts (verdict ∷ []) ∙ refl));
    each = λ number told at. elim (push_cases verdicts verdict number told (subst (λ (l : List Verdict). slice_get l number ≡ Some told) grown at)) [
      | inl it ↦ so_far.each number told it
      | inr it ↦ rw (sym it.1, it.0, sym so_far.next_at) checked
    ];
  }
    where
      one_more : (n : ℕ) → w + n * k + k ≡ w + (n + 1) * k
      one_more n = grind arith

  pub verdicts_all : (next : ℕ) (verdicts : List Verdict) → VerdictsSoFar parts orders w k next verdicts → length parts ≤ next → AreOfWorker parts orders w k verdicts
  verdicts_all next verdicts so_far end = record {
    all = λ number below. let at = so_far.next_at in lt_of_mul-lt-mul_right k (omega arith);
    each = so_far.each;
  }

-- the list of a further worker
module _ (parts : List (List Call)) (orders : List (List OpId)) (k : ℕ) where
  pub lists_one : (last : ℕ) (lists : List (List Verdict)) (one : List Verdict) → last ≡ 0 → lists ≡ one ∷ [] → AreOfWorker parts orders last k one → AreFirstLists parts orders k last lists
  lists_one last lists one first is theirs = record {
    all = ap length is ∙ ap (λ n. n + 1) (sym first);
    each = λ w verdicts at. elim (push_cases [] one w verdicts (subst (λ (l : List (List Verdict)). slice_get l w ≡ Some verdicts) is at)) [
      | inl it ↦ absurd (nothing w verdicts it)
      | inr it ↦ rw (sym it.1, it.0, sym first) theirs
    ];
  }
    where
      nothing : (w : ℕ) (verdicts : List Verdict) → slice_get [] w ≡ Some verdicts → ⊥
      nothing w verdicts h = cc

  pub lists_more : (before last : ℕ) (lists new : List (List Verdict)) (one : List Verdict) → AreFirstLists parts orders k before lists → last ≡ before + 1 → new ≡ lists ++ one ∷ [] → AreOfWorker parts orders last k one → AreFirstLists parts orders k last new
  lists_more before last lists new one are next is theirs = record {
    all = ap length is ∙ length-append lists (one ∷ []) ∙ ap (λ n. n + 1) (are.all ∙ sym next);
    each = λ w verdicts at. elim (push_cases lists one w verdicts (subst (λ (l : List (List Verdict)). slice_get l w ≡ Some verdicts) is at)) [
      | inl it ↦ are.each w verdicts it
      | inr it ↦ let here : w ≡ last = it.0 ∙ are.all ∙ sym next in rw (sym it.1, here) theirs
    ];
  }

  -- those up to the last of k workers are all
  pub lists_all : (last : ℕ) (lists : List (List Verdict)) → AreFirstLists parts orders k last lists → last + 1 ≡ k → AreLists parts orders k lists
  lists_all last lists are end = record { all = are.all ∙ end; each = are.each }
