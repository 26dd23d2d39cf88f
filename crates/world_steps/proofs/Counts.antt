-- How many calls are noted.
use Rattle.std.proofs.Common.{◌≡◌, ℕ, suc, ◌+◌, ◌<◌, ◌≤◌, ◌∙◌, Bool, true, false, ◌||◌, List, [], ◌∷◌, ◌++◌, Some, refl, ap, nat_eq, eqb-true}
use Rattle.std.proofs.lemmas.Bool.{eqb-false, or_right}
use Rattle.tag.specs.Tags.{Tag}
use Rattle.tag.specs.declared.numbers.OpId.{OpId}
use Rattle.recorder.specs.declared.row.Row.{Row}
use Rattle.recorder.specs.declared.row.Row.TheVariants.{Invoke, Note, Respond}
use Rattle.world_steps.specs.Sound.{NotNoted, is_note_of, is_noted, noted_below}
use Rattle.tag.proofs.SameTags.{same_op}
use Rattle.world_steps.proofs.CountBelow.{count_fewer, count_one_more, count_rises, count_wider}

pub or_or : (a b c : Bool) → (a || (b || c)) ≡ ((a || b) || c)
or_or true b c = refl
or_or false b c = refl

pub or_false : (a : Bool) → (a || false) ≡ a
or_false true = refl
or_false false = refl

noted_push : (R : List Row) (x : Row) (n : ℕ) → is_noted (R ++ x ∷ []) n ≡ (is_noted R n || is_note_of n x)
noted_push [] x n = or_false (is_note_of n x)
noted_push (y ∷ R) x n = ap (λ b. is_note_of n y || b) (noted_push R x n) ∙ or_or (is_note_of n y) (is_noted R n) (is_note_of n x)

pub stays_noted : (R : List Row) (x : Row) (n : ℕ) → is_noted R n ≡ true → is_noted (R ++ x ∷ []) n ≡ true
stays_noted R x n e = noted_push R x n ∙ ap (λ b. b || is_note_of n x) e

-- a row more: no fewer calls are noted
pub noted_below_push : (R : List Row) (x : Row) (n : ℕ) → noted_below R n ≤ noted_below (R ++ x ∷ []) n
noted_below_push R x n = count_rises (is_noted R) (is_noted (R ++ x ∷ [])) (stays_noted R x) n

pub now_noted : (R : List Row) (op : OpId) (t : Tag) (b : Bool) → nat_eq op.0 op.0 ≡ b → is_noted (R ++ Note op t ∷ []) op.0 ≡ true
now_noted R op t true e = noted_push R (Note op t) op.0 ∙ ap (λ b. is_noted R op.0 || b) e ∙ or_right (is_noted R op.0) true refl
now_noted R op t false e = absurd (eqb-false op.0 op.0 e refl)

-- a call's first note: one call more is noted
pub noted_below_note : (R : List Row) (op : OpId) (t : Tag) (n : ℕ) → is_noted R op.0 ≡ false → op.0 < n → noted_below R n + 1 ≤ noted_below (R ++ Note op t ∷ []) n
noted_below_note R op t n quiet less =
    count_one_more (is_noted R) (is_noted (R ++ Note op t ∷ [])) (stays_noted R (Note op t)) op.0 quiet (now_noted R op t (nat_eq op.0 op.0) refl) n less

quiet_row : (op : OpId) (x : Row) (b : Bool) → is_note_of op.0 x ≡ b → ((t : Tag) → x ≡ Note op t → ⊥) → b ≡ false
quiet_row op (Note o t) true e h = let s : o ≡ op = same_op o op (eqb-true o.0 op.0 e) in absurd (h t cc)
quiet_row op (Invoke o c k a) true e h = absurd cc
quiet_row op (Respond o r) true e h = absurd cc
quiet_row op x false e h = refl

-- no row is a note of the call: it isn't noted
pub not_noted : (R : List Row) (op : OpId) → NotNoted R op → is_noted R op.0 ≡ false
not_noted [] op h = refl
not_noted (x ∷ R) op h =
    let here : is_note_of op.0 x ≡ false = quiet_row op x (is_note_of op.0 x) refl (λ t e. h 0 t (ap Some e)) in
    let later : is_noted R op.0 ≡ false = not_noted R op (λ p t i. h (suc p) t i) in
    ap (λ b. b || is_noted R op.0) here ∙ later

-- where a call has no note, fewer calls have one than there are
pub noted_below_all : (R : List Row) (m n : ℕ) → is_noted R m ≡ false → m < n → noted_below R n < n
noted_below_all R m n quiet less = count_fewer (is_noted R) m n quiet less

-- with more calls no fewer of them are noted
pub noted_below_wider : (R : List Row) (n k : ℕ) → noted_below R n ≤ noted_below R (n + k)
noted_below_wider R n k = count_wider (is_noted R) n k
