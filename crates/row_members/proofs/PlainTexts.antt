-- Texts that a JSON string holds without an escape.
use Rattle.std.proofs.Common.{◌≡◌, ◌++◌, ◌∷◌, [], ℕ, List, Bool, true, not, ◌&&◌, ◌==◌, nat_le}
use Rattle.std.proofs.Common.{refl, ap₂, subst, eq-eqb}
use Rattle.std.specs.List.{list_all}
use Rattle.std.proofs.lemmas.Bool.{and_parts, leb-true}
use Rattle.json.specs.Print.{escape}
use Rattle.json.proofs.Printed.Strings.{escape_byte_plain}
use Rattle.row_members.specs.Scans.{is_plain}

own : (n : ℕ) → not (n == n) ≡ true → ⊥
own n h =
    let is : (n == n) ≡ true = eq-eqb n n refl in
    let no : not true ≡ true = subst (λ (b : Bool). not b ≡ true) is h in
    cc

unlike : (y n : ℕ) → not (y == n) ≡ true → y ≡ n → ⊥
unlike y n test e = own n (subst (λ (z : ℕ). not (z == n) ≡ true) e test)

pub escape_plain : (s : List ℕ) → list_all is_plain s ≡ true → escape s ≡ s
escape_plain [] h = refl
escape_plain (x ∷ s) h =
    let p = and_parts (is_plain x) (list_all is_plain s) h in
    let q = and_parts (nat_le 32 x && not (x == 34)) (not (x == 92)) p.0 in
    let r = and_parts (nat_le 32 x) (not (x == 34)) q.0 in
    ap₂ (λ (a b : List ℕ). a ++ b) (escape_byte_plain x (unlike x 34 r.1) (unlike x 92 q.1) (leb-true 32 x r.0)) (escape_plain s p.1)
