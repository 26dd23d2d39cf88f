-- A room that is filled block by block.
use Rattle.std.proofs.Common.{ℕ, ◌≡◌, ◌≤◌, ◌+◌, List, [], ◌++◌, length, take, Option, Some, None, ap, sym, ◌∙◌, subst, arith}
use Rattle.std.proofs.Math.Seq.{take-append-add}
use Rattle.std.proofs.lemmas.List.{length-take-le, take-append-le}
use Rattle.std.proofs.lemmas.Slice.{take-put_mid_below}
use Rattle.std.specs.Io.KnownBytes.{Consumes, Keeps}
use Rattle.counted_devices.proofs.Consuming.{Consumes-join, Consumes-keeps}
use borrow.Rule.Slice.PartMut.{put_mid, post_of}

take-filled : (a k n : ℕ) (xs ys : List ℕ) → a ≤ length xs → n ≤ length ys → take (a + n) (put_mid a k xs ys) ≡ take a xs ++ take n ys
take-filled a k n xs ys p q =
    ap (λ m. take (m + n) (put_mid a k xs ys)) (sym (length-take-le a xs p)) ∙ take-append-add (take a xs) (ys ++ post_of a k xs) n ∙ ap (λ l. take a xs ++ l) (take-append-le n ys (post_of a k xs) q)

-- a block was read after what the room held
pub fills : (old mid new : Option (List ℕ)) (a k n : ℕ) (xs ys : List ℕ) → a ≤ length xs → n ≤ length ys → Consumes old mid (take a xs) → Consumes mid new (take n ys) → Consumes old new (take (a + n) (put_mid a k xs ys))
fills old mid new a k n xs ys p q h step = subst (λ bytes. Consumes old new bytes) (sym (take-filled a k n xs ys p q)) (Consumes-join old mid new (take a xs) (take n ys) h step)

-- nothing was read
pub fills_nothing : (old mid new : Option (List ℕ)) (a k : ℕ) (xs ys : List ℕ) → a ≤ length xs → Consumes old mid (take a xs) → Keeps mid new → Consumes old new (take a (put_mid a k xs ys))
fills_nothing old mid new a k xs ys p h keeps = subst (λ bytes. Consumes old new bytes) (sym (take-put_mid_below a k xs ys a (omega arith) p)) (Consumes-keeps old mid new (take a xs) h keeps)

pub keeps_of_none : (old new : Option (List ℕ)) → Consumes old new [] → Keeps old new
keeps_of_none None new h = tt
keeps_of_none (Some xs) None h = absurd h
keeps_of_none (Some xs) (Some ys) h = sym h
