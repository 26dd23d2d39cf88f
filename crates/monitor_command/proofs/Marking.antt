-- Marks of keys.
use Rattle.std.proofs.Common.{◌≡◌, ◌<◌, ◌+◌, ℕ, Bool, true, false, not, cond, eqb, ◌&&◌, ◌||◌, List, Some, length, take, set, get_or, map, replicate, count_by, refl, sym, ap, ◌∙◌, inl, inr, arith}
use Rattle.std.specs.List.{slice_get, range_with_len}
use Rattle.std.proofs.lemmas.Bool.Decides.{eqb_tells}
use Rattle.std.proofs.lemmas.List.{length-set, length-replicate, get_or-replicate, get_or-set_other}
use Rattle.std.proofs.lemmas.List.Folds.{fold-map, list_any_more}
use Rattle.std.proofs.lemmas.List.FromFn.{fill_by_all}
use Rattle.std.proofs.lemmas.Grind.{get_or-set_at}
use Rattle.std.proofs.lemmas.Option.{get_or_from_slice_get, slice_get-get_or, slice_get_within}
use Rattle.record_monitor.specs.declared.report.Report.{Report}
use Rattle.monitor_command.specs.Countings.{is_in_doubt, is_reported, is_reported_refused}
use Rattle.monitor_command.specs.Tellings.{is_refusal}

-- the marks before and after those reports
abbrev pub AreMarked : List Report → List Bool → List Bool → Type 0
AreMarked reports old new = (number : ℕ) (was : Bool) → slice_get old number ≡ Some was
    → slice_get new number ≡ Some (was || is_reported reports number)

abbrev pub AreUnmarked : List Report → List Bool → List Bool → Type 0
AreUnmarked reports old new = (number : ℕ) (was : Bool) → slice_get old number ≡ Some was
    → slice_get new number ≡ Some (was && not (is_reported_refused reports number))

-- ---- one mark set

-- a mark is the new one at its number, and elsewhere as it was
set_at : (marks : List Bool) (at number : ℕ) (was mark : Bool) → slice_get marks number ≡ Some was
    → slice_get (set marks at mark) number ≡ Some (cond (eqb at number) mark was)
set_at marks at number was mark there =
    let within = slice_get_within marks number was there in
    let long = length-set marks at mark in
    slice_get-get_or (set marks at mark) number was (omega (arith, within, long)) ∙ ap Some (elim (eqb_tells at number) [
      | inl here ↦ get_or-set_at marks at number mark was (sym here.1) (omega (arith, within, here.1)) ∙ sym (ap (λ t. cond t mark was) here.0)
      | inr other ↦ get_or-set_other marks at number mark was (λ same. other.1 (sym same)) ∙ get_or_from_slice_get marks number was was there
          ∙ sym (ap (λ t. cond t mark was) other.0)
    ])

-- ---- one report more

marked_or : (was before here : Bool) → cond here true (was || before) ≡ (was || (before || here))
marked_or true before true = refl
marked_or true before false = refl
marked_or false true true = refl
marked_or false true false = refl
marked_or false false true = refl
marked_or false false false = refl

unmarked_and : (was before here : Bool) → cond here false (was && not before) ≡ (was && not (before || here))
unmarked_and true true true = refl
unmarked_and true true false = refl
unmarked_and true false true = refl
unmarked_and true false false = refl
unmarked_and false before true = refl
unmarked_and false before false = refl

and_true : (a : Bool) → (a && true) ≡ a
and_true true = refl
and_true false = refl

and_false : (a : Bool) → (a && false) ≡ false
and_false true = refl
and_false false = refl

or_false : (a : Bool) → (a || false) ≡ a
or_false true = refl
or_false false = refl

module _ (reports : List Report) (i : ℕ) (d : Report) (old now : List Bool) (within : i < length reports) where
  -- its key is marked
  pub marks_more : AreMarked (take i reports) old now → AreMarked (take (i + 1) reports) old (set now (get_or reports i d).key true)
  marks_more h = λ number was there.
      let key = (get_or reports i d).key in
      set_at now key number (was || is_reported (take i reports) number) true (h number was there)
      ∙ ap Some (marked_or was (is_reported (take i reports) number) (eqb key number))
      ∙ ap (λ b. Some (was || b)) (sym (list_any_more (λ report. eqb report.key number) reports i d within))

  -- it is a refusal, and its key isn't marked any more
  pub unmarks_more : is_refusal (get_or reports i d).finding ≡ true → AreUnmarked (take i reports) old now
      → AreUnmarked (take (i + 1) reports) old (set now (get_or reports i d).key false)
  unmarks_more refusal h = λ number was there.
      let key = (get_or reports i d).key in
      let here = ap (λ b. eqb key number && b) refusal ∙ and_true (eqb key number) in
      set_at now key number (was && not (is_reported_refused (take i reports) number)) false (h number was there)
      ∙ ap Some (unmarked_and was (is_reported_refused (take i reports) number) (eqb key number))
      ∙ ap (λ b. Some (was && not (is_reported_refused (take i reports) number || b))) (sym here)
      ∙ ap (λ b. Some (was && not b)) (sym (list_any_more (λ report. eqb report.key number && is_refusal report.finding) reports i d within))

  -- it isn't a refusal
  pub unmarks_none : is_refusal (get_or reports i d).finding ≡ false → AreUnmarked (take i reports) old now → AreUnmarked (take (i + 1) reports) old now
  unmarks_none refusal h = λ number was there.
      let key = (get_or reports i d).key in
      let here = ap (λ b. eqb key number && b) refusal ∙ and_false (eqb key number) in
      h number was there
      ∙ ap (λ b. Some (was && not b)) (sym (or_false (is_reported_refused (take i reports) number)))
      ∙ ap (λ b. Some (was && not (is_reported_refused (take i reports) number || b))) (sym here)
      ∙ ap (λ b. Some (was && not b)) (sym (list_any_more (λ report. eqb report.key number && is_refusal report.finding) reports i d within))

-- ---- all keys

-- of so many keys, first none of them marked, those in doubt are
pub doubts_marked : (reports : List Report) (n : ℕ) (first second : List Bool) → length first ≡ length (replicate n false) → length second ≡ length first
    → AreMarked reports (replicate n false) first → AreUnmarked reports first second → second ≡ map (is_in_doubt reports) (range_with_len 0 n)
doubts_marked reports n first second many more marked unmarked =
    let long : length second ≡ n = more ∙ many ∙ length-replicate n false in
    fill_by_all (is_in_doubt reports) second n false long (λ number small.
    let none : slice_get (replicate n false) number ≡ Some false =
    slice_get-get_or (replicate n false) number false (omega (arith, small, length-replicate n false)) ∙ ap Some (get_or-replicate n number false false small) in
    get_or_from_slice_get second number (is_in_doubt reports number) false
    (unmarked number (is_reported reports number) (marked number false none)))

-- so many are marked
pub count_marked : (p : ℕ → Bool) (numbers : List ℕ) → count_by (λ (mark : Bool). mark) (map p numbers) ≡ count_by p numbers
count_marked p numbers = fold-map (λ (count : ℕ) (mark : Bool). count + cond mark 1 0) p 0 numbers
