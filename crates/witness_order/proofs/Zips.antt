-- Two lists, item for item.
use Rattle.std.proofs.Common.{◌≡◌, ℕ, suc, List, [], ◌∷◌, ◌++◌, Some, take, slice_get, sym, subst}
use Rattle.std.specs.List.{AllZip}
use Rattle.tag.proofs.Lists.{take_push}

AllZip-push_both : {A B : Type 0} (R : A → B → Type 0) (xs : List A) (ys : List B) (x : A) (y : B) → AllZip R xs ys → R x y → AllZip R (xs ++ x ∷ []) (ys ++ y ∷ [])
AllZip-push_both R [] [] x y h r = (r, tt)
AllZip-push_both R [] (b ∷ ys) x y h r = absurd h
AllZip-push_both R (a ∷ xs) [] x y h r = absurd h
AllZip-push_both R (a ∷ xs) (b ∷ ys) x y h r = (h.0, AllZip-push_both R xs ys x y h.1 r)

-- one item more of the first list
pub AllZip-next : {A B : Type 0} (R : A → B → Type 0) (xs : List A) (ys : List B) (i : ℕ) (x : A) (y : B) → slice_get xs i ≡ Some x → AllZip R (take i xs) ys → R x y → AllZip R (take (suc i) xs) (ys ++ y ∷ [])
AllZip-next {A = A} {B = B} R xs ys i x y at h r =
    let P : List A → Type 0 = λ front. AllZip R front (ys ++ y ∷ []) in
    subst P (sym (take_push xs i x at)) (AllZip-push_both R (take i xs) ys x y h r)
