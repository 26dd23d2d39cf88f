-- Verdicts by marks.
use Rattle.std.proofs.Common.{ℕ, zero, suc, ◌≡◌, ◌≤◌, ◌-◌, List, [], ◌∷◌, ◌++◌, Some, length, map, inl, inr, refl, sym, ap, ap₂, subst, ◌∙◌, arith, length-append}
use Rattle.std.specs.List.{slice_get}
use Rattle.std.proofs.lemmas.List.{map-append}
use Rattle.tag.proofs.Lists.{get_at, push_cases, slice_get-push_last, slice_get-push_left}
use Rattle.certificate_check.specs.declared.verdict.Fault.{Fault}
use Rattle.certificate_check.specs.declared.verdict.Verdict.{Verdict}
use Rattle.certificate_check.specs.declared.verdict.Verdict.TheVariants.{Yes, No}
use Rattle.parallel_keys.specs.VerdictLists.{verdict_for, verdict_of}

-- each mark has its fault
abbrev pub Have : List ℕ → ℕ → Type 0
Have marks count = (i mark : ℕ) → slice_get marks i ≡ Some mark → mark ≤ count

-- one mark more
pub have_more : (marks new : List ℕ) (count more one : ℕ) → Have marks count → count ≤ more → one ≤ more → new ≡ marks ++ one ∷ [] → Have new more
have_more marks new count more one have rising within grown i mark at =
    elim (push_cases marks one i mark (subst (λ (l : List ℕ). slice_get l i ≡ Some mark) grown at)) [
      | inl old ↦ omega (arith, have i mark old, rising)
      | inr last ↦ omega (arith, within, last.1)
    ]

-- with one fault more, a mark has the verdict that it had
kept_one : (faults : List Fault) (fault : Fault) (mark : ℕ) → mark ≤ length faults → verdict_of (faults ++ fault ∷ []) mark ≡ verdict_of faults mark
kept_one faults fault zero within = refl
kept_one faults fault (suc place) within =
    let here = get_at faults place (omega arith) in
    ap verdict_for (slice_get-push_left faults fault place here.0 here.1 ∙ sym here.1)

kept : (faults : List Fault) (fault : Fault) (marks : List ℕ) → Have marks (length faults) → map (verdict_of (faults ++ fault ∷ [])) marks ≡ map (verdict_of faults) marks
kept faults fault [] have = refl
kept faults fault (mark ∷ marks) have =
    ap₂ (λ (v : Verdict) (vs : List Verdict). v ∷ vs) (kept_one faults fault mark (have 0 mark refl)) (kept faults fault marks (λ i m at. have (suc i) m at))

-- a yes more
pub yes_more : (faults : List Fault) (marks new : List ℕ) → new ≡ marks ++ 0 ∷ [] → map (verdict_of faults) new ≡ map (verdict_of faults) marks ++ Yes ∷ []
yes_more faults marks new grown = ap (map (verdict_of faults)) grown ∙ map-append (verdict_of faults) marks (0 ∷ [])

-- a no more
last_no : (faults : List Fault) (fault : Fault) (mark : ℕ) → mark ≡ suc (length faults) → verdict_of (faults ++ fault ∷ []) mark ≡ No fault
last_no faults fault mark is = ap (verdict_of (faults ++ fault ∷ [])) is ∙ ap verdict_for (slice_get-push_last faults fault)

pub no_more : (faults : List Fault) (fault : Fault) (marks new : List ℕ) (grown : List Fault) (mark : ℕ) → Have marks (length faults) → grown ≡ faults ++ fault ∷ [] → mark ≡ length grown → new ≡ marks ++ mark ∷ [] → map (verdict_of grown) new ≡ map (verdict_of faults) marks ++ No fault ∷ []
no_more faults fault marks new grown mark have is last more =
    let count : mark ≡ suc (length faults) = omega (arith, last, ap length is, length-append faults (fault ∷ [])) in
    ap₂ (λ (fs : List Fault) (ms : List ℕ). map (verdict_of fs) ms) is more
    ∙ map-append (verdict_of (faults ++ fault ∷ [])) marks (mark ∷ [])
    ∙ ap₂ (λ (vs : List Verdict) (v : Verdict). vs ++ v ∷ []) (kept faults fault marks have) (last_no faults fault mark count)
