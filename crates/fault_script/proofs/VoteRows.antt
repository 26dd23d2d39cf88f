-- Numbers of votes, read one after another.
use Rattle.std.proofs.Common.{ℕ, zero, suc, ◌≡◌, ◌<◌, List, [], ◌∷◌, ◌++◌, Option, Result, Ok, Err, refl, ap, ◌∙◌, subst, arith}
use Rattle.fault_script.specs.declared.fault.LineFault.{LineFault}
use Rattle.counted_devices.specs.declared.read_fault.Stop.{Stop}
use Rattle.counted_devices.specs.declared.read_fault.Stop.TheVariants as stops
use Rattle.counted_devices.specs.Answers.{◌>>=◌, Fails}
use Rattle.fault_script.specs.Says.{needed_number}
use Rattle.fault_script.specs.Settings.{vote_count, numbers_in}
use Rattle.fault_script.proofs.Chains.{after}

abbrev Rows : Type 0
Rows = List ℕ × List (List ℕ)

abbrev taken : Rows → Result Rows LineFault
taken rows = Ok rows

abbrev joined : Option ℕ → Rows → Result Rows LineFault
joined first others = Ok (vote_count first ∷ others.0, others.1)

inside : (a b : List ℕ) (x y : List (List ℕ)) → taken (a, x) ≡ taken (b, y) → (a ≡ b) × (x ≡ y)
inside a b x y e =
    let p : (a, x) ≡ (b, y) = cc in
    (ap (λ (rows : Rows). rows.0) p, ap (λ (rows : Rows). rows.1) p)

-- one number more
pub numbers_more : (n : ℕ) (words ws more : List (List ℕ)) (vs : List ℕ) (v : Option ℕ) → numbers_in n words ≡ Ok (vs, ws)
    → needed_number ws ≡ Ok (v, more) → numbers_in (suc n) words ≡ Ok (vs ++ vote_count v ∷ [], more)
unfolding numbers_in
numbers_more zero words ws more vs v e h =
    let w = inside [] vs words ws e in
    let here : needed_number words ≡ Ok (v, more) = ap needed_number w.1 ∙ h in
    let P : List ℕ → Type 0 = λ xs. (needed_number words >>= (λ first. (taken ([], first.1) >>= (λ others. joined first.0 others))))
    ≡ Ok (xs ++ vote_count v ∷ [], more) in
    subst P w.0 (ap (λ r. r >>= (λ first. (taken ([], first.1) >>= (λ others. joined first.0 others)))) here)
numbers_more (suc n) words ws more vs v e h =
    let a = after (needed_number words) (λ first. (numbers_in n first.1 >>= (λ others. joined first.0 others))) (vs, ws) e in
    let b = after (numbers_in n a.0.1) (λ others. joined a.0.0 others) (vs, ws) a.2 in
    let w = inside (vote_count a.0.0 ∷ b.0.0) vs b.0.1 ws b.2 in
    let rest : numbers_in n a.0.1 ≡ Ok (b.0.0, ws) = b.1 ∙ ap (λ (x : List (List ℕ)). taken (b.0.0, x)) w.1 in
    let one = numbers_more n a.0.1 ws more b.0.0 v rest h in
    let P : List ℕ → Type 0 = λ xs. numbers_in (suc (suc n)) words ≡ Ok (xs ++ vote_count v ∷ [], more) in
    subst P w.0 (ap (λ r. r >>= (λ first. (numbers_in (suc n) first.1 >>= (λ others. joined first.0 others)))) a.1
    ∙ ap (λ r. r >>= (λ others. joined a.0.0 others)) one)

-- a number that is missing
pub numbers_fail : (n count : ℕ) (words ws : List (List ℕ)) (vs : List ℕ) (fault : LineFault) → n < count → numbers_in n words
    ≡ Ok (vs, ws) → needed_number ws ≡ Err fault → numbers_in count words ≡ Err fault
unfolding numbers_in
numbers_fail n zero words ws vs fault lt e h = absurd (omega arith)
numbers_fail zero (suc count) words ws vs fault lt e h =
    let w = inside [] vs words ws e in
    ap (λ r. r >>= (λ first. (numbers_in count first.1 >>= (λ others. joined first.0 others)))) (ap needed_number w.1 ∙ h)
numbers_fail (suc n) (suc count) words ws vs fault lt e h =
    let a = after (needed_number words) (λ first. (numbers_in n first.1 >>= (λ others. joined first.0 others))) (vs, ws) e in
    let b = after (numbers_in n a.0.1) (λ others. joined a.0.0 others) (vs, ws) a.2 in
    let w = inside (vote_count a.0.0 ∷ b.0.0) vs b.0.1 ws b.2 in
    let rest : numbers_in n a.0.1 ≡ Ok (b.0.0, ws) = b.1 ∙ ap (λ (x : List (List ℕ)). taken (b.0.0, x)) w.1 in
    ap (λ r. r >>= (λ first. (numbers_in count first.1 >>= (λ others. joined first.0 others)))) a.1
    ∙ ap (λ r. r >>= (λ others. joined a.0.0 others)) (numbers_fail n count a.0.1 ws b.0.0 fault (omega arith) rest h)

pub numbers_stop : (stop : Stop LineFault) (n count : ℕ) (words ws : List (List ℕ)) (vs : List ℕ) → n < count → numbers_in n words
    ≡ Ok (vs, ws) → Fails stop (needed_number ws) → Fails stop (numbers_in count words)
numbers_stop stops.Memory n count words ws vs lt e h = tt
numbers_stop (stops.Fault fault) n count words ws vs lt e h = numbers_fail n count words ws vs fault lt e h

pub numbers-zero : (words : List (List ℕ)) → numbers_in 0 words ≡ Ok ([], words)
unfolding numbers_in
numbers-zero words = refl
