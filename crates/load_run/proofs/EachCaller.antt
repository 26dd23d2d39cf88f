-- The callers of a load, one after another.
use Rattle.std.proofs.Common.{◌≡◌, List, [], ◌∷◌, ◌++◌, map, sym, ap, ◌∙◌}
use Rattle.std.proofs.lemmas.List.{append_assoc, map-append}
use Rattle.seats.specs.Seats.{Seat}
use Rattle.load_run.specs.Loads.{refusals_of, refused_of}
use Rattle.load_run.specs.declared.callers.Called.{Called}
use Rattle.load_run.specs.declared.load_run.Refused.{Refused}

-- what is made of the elements before and of those that are left, with one more
pub more : {X Y W : Type 0} (f : X → W) (g : Y → W) (xs now : List X) (x : X) (y : Y) (rest left : List Y) (all : List W)
    → map f xs ++ map g rest ≡ all → rest ≡ y ∷ left → now ≡ xs ++ x ∷ [] → f x ≡ g y
    → map f now ++ map g left ≡ all
more f g xs now x y rest left all so_far step is same =
    ap (λ l. map f l ++ map g left) is ∙ ap (λ l. l ++ map g left) (map-append f xs (x ∷ [])) ∙ append_assoc (map f xs) (f x ∷ [])
    (map g left)
    ∙ ap (λ w. map f xs ++ w ∷ map g left) same ∙ ap (λ r. map f xs ++ map g r) (sym step) ∙ so_far

-- at first all are left
pub none_yet : {X Y W : Type 0} (f : X → W) (g : Y → W) (xs : List X) (rest all : List Y) → xs ≡ [] → rest ≡ all → map f xs ++ map g rest ≡ map g all
none_yet f g xs rest all none same = ap (λ l. map f l ++ map g rest) none ∙ ap (map g) same

-- the seats before, and those that are left
pub seats_more : (seats now : List Seat) (called : Called) (rest left : List Called) (all : List Seat)
    → seats ++ map (λ (c : Called). c.seat) rest ≡ all → rest ≡ called ∷ left → now ≡ seats ++ called.seat ∷ []
    → now ++ map (λ (c : Called). c.seat) left ≡ all
seats_more seats now called rest left all so_far step is =
    ap (λ l. l ++ map (λ (c : Called). c.seat) left) is ∙ append_assoc seats (called.seat ∷ []) (map (λ (c : Called). c.seat) left)
    ∙ ap (λ (r : List Called). seats ++ map (λ (c : Called). c.seat) r) (sym step) ∙ so_far

-- the refusals before, and those that are left
pub refusals_more : (refusals now : List Refused) (called : Called) (rest left : List Called) (all : List Refused)
    → refusals ++ refusals_of rest ≡ all → rest ≡ called ∷ left
    → now ≡ refusals ++ refused_of called.seat.client called.refusal → now ++ refusals_of left ≡ all
refusals_more refusals now called rest left all so_far step is =
    ap (λ l. l ++ refusals_of left) is ∙ append_assoc refusals (refused_of called.seat.client called.refusal) (refusals_of left)
    ∙ ap (λ r. refusals ++ refusals_of r) (sym step) ∙ so_far
