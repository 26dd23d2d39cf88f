-- Judgements that were collected from several threads.
use Rattle.std.proofs.Common.{List, [], ◌∷◌, ◌≡◌, Result, Ok, map, subst, sym}
use Rattle.std.specs.Prelude.{IfOk, MatchResult}
use Rattle.std.specs.List.{AllZip}
use Rattle.std.proofs.lemmas.Result.{MatchResult-weaker}

-- where each result is a success, what holds of the successes holds of the values
all_there : {X Y : Type 0} (E : Type 0) (R : X → Y → Type 0) (xs : List X) (ys : List Y) → AllZip (λ (x : X) (r : Result Y E). IfOk r (R x)) xs (map Ok ys) → AllZip R xs ys
all_there E R [] [] h = tt
all_there E R [] (y ∷ ys) h = absurd h
all_there E R (x ∷ xs) [] h = absurd h
all_there E R (x ∷ xs) (y ∷ ys) h = (h.0, all_there E R xs ys h.1)

-- the values that were collected of the results
pub collected : {X Y E C : Type 0} (R : X → Y → Type 0) (items : C → List Y) (xs : List X) (rs : List (Result Y E)) (r : Result C E) (Q : E → Type 0) → AllZip (λ (x : X) (r : Result Y E). IfOk r (R x)) xs rs → MatchResult r (λ c. (ys : List Y) × (rs ≡ map Ok ys) × (items c ≡ ys)) Q → IfOk r (λ c. AllZip R xs (items c))
collected {X} {Y} {E} {C} R items xs rs r Q all made =
    let Rs : List (Result Y E) → Type 0 = λ l. AllZip (λ (x : X) (r : Result Y E). IfOk r (R x)) xs l in
    let Ys : List Y → Type 0 = λ l. AllZip R xs l in
    MatchResult-weaker r made (λ c m. subst Ys (sym m.2) (all_there E R xs m.0 (subst Rs m.1 all))) (λ e q. tt)
