-- Bytes that a reader gives, one block after another.
use Rattle.std.proofs.Common.{ℕ, List, [], ◌++◌, Option, Some, None, refl, sym, ap, ◌∙◌}
use Rattle.std.proofs.Common.{append_assoc}
use Rattle.std.specs.Io.KnownBytes.{Consumes, Keeps}

pub Consumes-none : (a : Option (List ℕ)) → Consumes a a []
Consumes-none None = tt
Consumes-none (Some xs) = refl

pub Consumes-join : (a b c : Option (List ℕ)) (xs ys : List ℕ) → Consumes a b xs → Consumes b c ys
    → Consumes a c (xs ++ ys)
Consumes-join None b c xs ys h k = tt
Consumes-join (Some x) None c xs ys h k = absurd h
Consumes-join (Some x) (Some y) None xs ys h k = absurd k
Consumes-join (Some x) (Some y) (Some z) xs ys h k =
    h ∙ ap (λ (l : List ℕ). xs ++ l) k ∙ sym (append_assoc xs ys z)

pub Consumes-keeps : (a b c : Option (List ℕ)) (bytes : List ℕ) → Consumes a b bytes → Keeps b c
    → Consumes a c bytes
Consumes-keeps None b c bytes h k = tt
Consumes-keeps (Some x) None c bytes h k = absurd h
Consumes-keeps (Some x) (Some y) None bytes h k = absurd k
Consumes-keeps (Some x) (Some y) (Some z) bytes h k = h ∙ ap (λ (l : List ℕ). bytes ++ l) (sym k)
