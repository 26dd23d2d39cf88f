-- How a set of small numbers lies in the bits of one number.
use Rattle.std.specs.Prelude.{◌≡◌, ℕ, zero, suc, ◌+◌, ◌*◌, ◌^◌, ◌%◌, ◌<◌, ◌≤◌, Bool, true, false}
use Rattle.std.specs.Prelude.{if◌then◌else◌, nat_eq, nat_lt, ◌&&◌, ◌||◌}
use Rattle.std.specs.Int.{bit_at}
use Rattle.std.specs.Ordering.{nat_cmp}
use Rattle.std.specs.Cmp.{nat_cmp_total, unsigned_tied}
use Rattle.std.specs.FinSet as finite
use Rattle.std.proofs.Common.{refl, sym, ap, ◌∙◌, ⊎_elim, arith}
use Rattle.std.proofs.lemmas.Bool.{eq-eqb, ne_eqb, lt-ltb, le-ltb, cases_order, and_left}
use Rattle.std.proofs.lemmas.Nat.{mod-pow-add}
use Rattle.std.proofs.lemmas.Nat.Bits.{bit_at-lt}
use Rattle.std.proofs.Math.Nat.{mod-eq_of_lt}
use Rattle.quorum.specs.Sets.{Replicas}

-- the numbers below n whose bits are set
unfoldable pub set_of_bits : ℕ → ℕ → Replicas
set_of_bits zero bits = finite.empty
set_of_bits (suc n) bits =
    if nat_eq (bit_at bits n) 1 then finite.insert (set_of_bits n bits) n else set_of_bits n bits

-- the number whose bits below n are those of the set
pub bits_of_set : ℕ → Replicas → ℕ
bits_of_set zero set = 0
bits_of_set (suc n) set = (if finite.contains set n then 1 else 0) * 2 ^ n + bits_of_set n set

one_of : (x y z b : Bool) → x ≡ true → z ≡ true → b ≡ true → (x || (y && b)) ≡ (z && b)
one_of x y z b p r s = rw (p, r, s) refl

second_of : (x y z b : Bool) → x ≡ false → y ≡ z → (x || (y && b)) ≡ (z && b)
second_of x y z b p q = rw (p, q) refl

-- what is below n + 1 is n or below n
below-suc : (q n : ℕ) (b : Bool) → (q ≡ n → b ≡ true) → (nat_eq q n || (nat_lt q n && b))
    ≡ (nat_lt q (suc n) && b)
below-suc q n b same =
    ⊎_elim (λ e. one_of (nat_eq q n) (nat_lt q n) (nat_lt q (suc n)) b (eq-eqb q n e)
    (lt-ltb q (suc n) (omega arith)) (same e))
    (λ o. ⊎_elim
    (λ l. second_of (nat_eq q n) (nat_lt q n) (nat_lt q (suc n)) b (ne_eqb q n (λ e. omega arith))
    (lt-ltb q n l ∙ sym (lt-ltb q (suc n) (omega arith))))
    (λ l. second_of (nat_eq q n) (nat_lt q n) (nat_lt q (suc n)) b (ne_eqb q n (λ e. omega arith))
    (le-ltb q n (omega arith) ∙ sym (le-ltb q (suc n) (omega arith)))) o) (cases_order q n)

none_of : (y z b : Bool) → b ≡ false → (y && b) ≡ (z && b)
none_of true true b p = refl
none_of true false b p = p
none_of false true b p = sym p
none_of false false b p = refl

same_test : (y z b : Bool) → y ≡ z → (y && b) ≡ (z && b)
same_test y z b p = ap (λ x. x && b) p

below-suc_none : (q n : ℕ) (b : Bool) → (q ≡ n → b ≡ false) → (nat_lt q n && b)
    ≡ (nat_lt q (suc n) && b)
below-suc_none q n b same =
    ⊎_elim (λ e. none_of (nat_lt q n) (nat_lt q (suc n)) b (same e))
    (λ o. ⊎_elim
    (λ l. same_test (nat_lt q n) (nat_lt q (suc n)) b (lt-ltb q n l
    ∙ sym (lt-ltb q (suc n) (omega arith))))
    (λ l. same_test (nat_lt q n) (nat_lt q (suc n)) b (le-ltb q n (omega arith)
    ∙ sym (le-ltb q (suc n) (omega arith)))) o) (cases_order q n)

pub contains-insert : (set : Replicas) (n q : ℕ) → finite.contains (finite.insert set n) q
    ≡ (nat_eq q n || finite.contains set q)
contains-insert set n q = finite.contains-insert nat_cmp_total set n q
    ∙ ap (λ x. x || finite.contains set q) (unsigned_tied q n)

contains-more : (n q : ℕ) (set : Replicas) (test : ℕ → Bool) (b : Bool) → test n ≡ b
    → finite.contains set q ≡ (nat_lt q n && test q)
    → finite.contains (if b then finite.insert set n else set) q ≡ (nat_lt q (suc n) && test q)
contains-more n q set test true is so =
    contains-insert set n q ∙ ap (λ x. nat_eq q n || x) so
    ∙ below-suc q n (test q) (λ e. ap test e ∙ is)
contains-more n q set test false is so = so ∙ below-suc_none q n (test q) (λ e. ap test e ∙ is)

pub contains-set_of_bits : (n bits q : ℕ) → finite.contains (set_of_bits n bits) q
    ≡ (nat_lt q n && nat_eq (bit_at bits q) 1)
unfolding set_of_bits
contains-set_of_bits zero bits q =
    finite.contains-empty nat_cmp q ∙ sym (and_left (nat_lt q 0) (nat_eq (bit_at bits q) 1) (le-ltb
    q 0 (omega arith)))
contains-set_of_bits (suc n) bits q =
    contains-more n q (set_of_bits n bits) (λ k. nat_eq (bit_at bits k) 1)
    (nat_eq (bit_at bits n) 1) refl (contains-set_of_bits n bits q)

pub contains-below : (m bits n : ℕ) → n < m → finite.contains (set_of_bits m bits) n
    ≡ nat_eq (bit_at bits n) 1
contains-below m bits n h =
    contains-set_of_bits m bits n ∙ ap (λ x. x && nat_eq (bit_at bits n) 1) (lt-ltb n m h)

digit : (d : ℕ) → d < 2 → (if nat_eq d 1 then 1 else 0) ≡ d
digit zero h = refl
digit (suc zero) h = refl
digit (suc (suc d)) h = absurd (omega arith)

-- the low bits of a number are those of its set
bits-mod : (m bits n : ℕ) → n ≤ m → bits_of_set n (set_of_bits m bits) ≡ bits % 2 ^ n
unfolding bits_of_set
bits-mod m bits zero h = omega arith
bits-mod m bits (suc n) h =
    let rest = bits_of_set n (set_of_bits m bits) in
    let e : 1 + n ≡ suc n = omega arith in
    ap (λ x. (if x then 1 else 0) * 2 ^ n + rest) (contains-below m bits n (omega arith))
    ∙ ap (λ d. d * 2 ^ n + rest) (digit (bit_at bits n) (bit_at-lt bits n))
    ∙ ap (λ r. bit_at bits n * 2 ^ n + r) (bits-mod m bits n (omega arith))
    ∙ sym (mod-pow-add bits 1 n)
    ∙ ap (λ k. bits % 2 ^ k) e

pub mod_small : (bits k : ℕ) → bits < k → bits % k ≡ bits
mod_small bits k h = mod-eq_of_lt h

pub same_bits : (bits : ℕ) → bits < 2 ^ 15 → bits_of_set 15 (set_of_bits 15 bits) ≡ bits
same_bits bits h = bits-mod 15 bits 15 (omega arith) ∙ mod_small bits 32768 h
