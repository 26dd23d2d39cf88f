-- What the code does to the bits of a set.
use Rattle.std.proofs.Common.{◌≡◌, ℕ, zero, suc, ◌+◌, ◌*◌, ◌^◌, ◌/◌, ◌%◌, ◌<◌, Bool, true, false, cond, nat_eq, nat_lt, refl, sym, ap, ◌∙◌, ⊎_elim, arith}
use Rattle.std.specs.Prelude.{◌&&◌, ◌||◌, if◌then◌else◌, bit_and, bit_or}
use Rattle.std.specs.Int.RustNames.{count_ones}
use Rattle.std.specs.Int.{bit_at}
use Rattle.std.specs.Int.{w16}
use Rattle.std.specs.Ordering.{nat_cmp}
use Rattle.std.specs.Cmp.{nat_cmp_total}
use Rattle.std.specs.FinSet as finite
use Rattle.std.proofs.lemmas.Bool.{eq-eqb, ne_eqb, lt-ltb, le-ltb, cases_eq, and_left, false≢true}
use Rattle.std.proofs.lemmas.Nat.{or_lt, one_shl, pow_below, pow_pos, ones_cat, mod-pow-add}
use Rattle.std.proofs.Math.Nat.{mod-lt}
use Rattle.std.proofs.lemmas.Nat.Bits.{bit_at-lt, bit_at-zero, bit_at_set_same, bit_at_set_other, shr_and_one}
use Rattle.quorum.specs.Sets.{Replicas}
use Rattle.quorum.specs.Bits.{set_of_bits, bits_of_set, mod_small, same_bits, contains-insert, contains-set_of_bits, contains-below}

pub set_of_bits-zero : (bits : ℕ) → set_of_bits 0 bits ≡ finite.empty
unfolding set_of_bits
set_of_bits-zero bits = refl

pub set_of_bits-suc : (n bits : ℕ) → set_of_bits (suc n) bits
    ≡ (if nat_eq (bit_at bits n) 1 then finite.insert (set_of_bits n bits) n
    else set_of_bits n bits)
unfolding set_of_bits
set_of_bits-suc n bits = refl

one_more : (x y b d : Bool) → x ≡ true → y ≡ true → b ≡ true → (y && b) ≡ (x || (y && d))
one_more x y b d p q r = rw (p, q, r) refl

other : (x y b d : Bool) → x ≡ false → b ≡ d → (y && b) ≡ (x || (y && d))
other x y b d p q = rw (p, q) refl

-- a bit that is set is a member that is added
pub set_of_bits-or : (bits r : ℕ) → r < 15 → set_of_bits 15 (bit_or bits (1 * 2 ^ r % 2 ^ 16)) ≡ finite.insert (set_of_bits 15 bits) r
set_of_bits-or bits r h =
    let more = bit_or bits (1 * 2 ^ r % 2 ^ 16) in
    finite.same_set nat_cmp_total finite.nat_cmp-IsAntisymmetric (set_of_bits 15 more) (finite.insert (set_of_bits 15 bits) r)
    (λ q. contains-set_of_bits 15 more q
    ∙ ⊎_elim
    (λ e. one_more (nat_eq q r) (nat_lt q 15) (nat_eq (bit_at more q) 1) (nat_eq (bit_at bits q) 1) (eq-eqb q r e) (lt-ltb q 15 (omega arith)) (ap (λ k. nat_eq (bit_at more k) 1) e ∙ ap (λ d. nat_eq d 1) (bit_at_set_same w16 bits r (omega arith))))
    (λ ne. other (nat_eq q r) (nat_lt q 15) (nat_eq (bit_at more q) 1) (nat_eq (bit_at bits q) 1) (ne_eqb q r ne) (ap (λ d. nat_eq d 1) (bit_at_set_other w16 bits r (omega arith) q ne)))
    (cases_eq q r)
    ∙ sym (contains-insert (set_of_bits 15 bits) r q ∙ ap (λ x. nat_eq q r || x) (contains-set_of_bits 15 bits q)))

pub or-fits : (bits r : ℕ) → bits < 2 ^ 15 → r < 15 → bit_or bits (1 * 2 ^ r % 2 ^ 16) < 2 ^ 15
or-fits bits r h k =
    let small : 2 ^ r < 2 ^ 15 = pow_below r 15 k in
    let is : 1 * 2 ^ r % 2 ^ 16 ≡ 2 ^ r = one_shl r 16 (omega arith) in
    or_lt 15 bits (1 * 2 ^ r % 2 ^ 16) h (rw is small)

-- a bit that is read is whether a member is there
pub contains-shr : (bits r : ℕ) → r < 15 → nat_eq (bit_and (bits / 2 ^ r) 1) 1 ≡ finite.contains (set_of_bits 15 bits) r
contains-shr bits r h = ap (λ d. nat_eq d 1) (shr_and_one bits r) ∙ sym (contains-below 15 bits r h)

ones-zero : count_ones 0 ≡ 0
unfolding count_ones
ones-zero = refl

ones-one : count_ones 1 ≡ 1
unfolding count_ones
ones-one = refl

len-more : (n d : ℕ) (set : Replicas) (b : Bool) → d < 2 → nat_eq d 1 ≡ b → finite.contains set n ≡ false
    → finite.len (if b then finite.insert set n else set) ≡ count_ones d + finite.len set
len-more n zero set true h is out = absurd (false≢true is)
len-more n zero set false h is out =
    let e : finite.len set ≡ count_ones 0 + finite.len set = omega (arith, ones-zero) in e
len-more n (suc zero) set true h is out =
    let e : finite.len set + 1 ≡ count_ones 1 + finite.len set = omega (arith, ones-one) in
    finite.len-insert nat_cmp_total set n ∙ ap (λ x. cond x (finite.len set) (finite.len set + 1)) out ∙ e
len-more n (suc zero) set false h is out = absurd (false≢true (sym is))
len-more n (suc (suc d)) set b h is out = absurd (omega arith)

-- how many bits are set is how many members there are
len-mod : (n bits : ℕ) → finite.len (set_of_bits n bits) ≡ count_ones (bits % 2 ^ n)
len-mod zero bits =
    let none : bits % 2 ^ 0 ≡ 0 = omega arith in
    ap finite.len (set_of_bits-zero bits) ∙ finite.len-empty nat_cmp ∙ sym ones-zero ∙ ap count_ones (sym none)
len-mod (suc n) bits =
    let set = set_of_bits n bits in
    let e : 1 + n ≡ suc n = omega arith in
    let out : finite.contains set n ≡ false = contains-set_of_bits n bits n ∙ and_left (nat_lt n n) (nat_eq (bit_at bits n) 1) (le-ltb n n (omega arith)) in
    ap finite.len (set_of_bits-suc n bits)
    ∙ len-more n (bit_at bits n) set (nat_eq (bit_at bits n) 1) (bit_at-lt bits n) refl out
    ∙ ap (λ k. count_ones (bit_at bits n) + k) (len-mod n bits)
    ∙ sym (ones_cat n (bit_at bits n) (bits % 2 ^ n) (mod-lt bits (pow_pos n)))
    ∙ ap count_ones (sym (mod-pow-add bits 1 n) ∙ ap (λ k. bits % 2 ^ k) e)

pub len-set_of_bits : (bits : ℕ) → bits < 2 ^ 15 → count_ones bits ≡ finite.len (set_of_bits 15 bits)
len-set_of_bits bits h = sym (len-mod 15 bits ∙ ap count_ones (mod_small bits 32768 h))

-- no bit is set in 0
pub set_of_bits-none : (n : ℕ) → set_of_bits n 0 ≡ finite.empty
set_of_bits-none zero = set_of_bits-zero 0
set_of_bits-none (suc n) =
    set_of_bits-suc n 0
    ∙ ap (λ d. if nat_eq d 1 then finite.insert (set_of_bits n 0) n else set_of_bits n 0) (bit_at-zero n)
    ∙ set_of_bits-none n

-- a set that is shown gives its bits back
pub bits-from_view : (bits : ℕ) (set : Replicas) → set_of_bits 15 bits ≡ set → bits < 2 ^ 15 → bits_of_set 15 set ≡ bits
bits-from_view bits set view h = ap (bits_of_set 15) (sym view) ∙ same_bits bits h
