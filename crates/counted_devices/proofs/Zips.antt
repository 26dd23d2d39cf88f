-- Two lists, item for item.
use Rattle.std.proofs.Common.{◌≡◌, List, [], ◌∷◌, ◌++◌, refl, ap}
use Rattle.std.specs.List.{AllZip}

pub AllZip-push_both : {A B : Type 0} (R : A → B
    → Type 0) (xs : List A) (ys : List B) (x : A) (y : B) → AllZip R xs ys → R x y
    → AllZip R (xs ++ x ∷ []) (ys ++ y ∷ [])
AllZip-push_both R [] [] x y h r = (r, tt)
AllZip-push_both R [] (b ∷ ys) x y h r = absurd h
AllZip-push_both R (a ∷ xs) [] x y h r = absurd h
AllZip-push_both R (a ∷ xs) (b ∷ ys) x y h r = (h.0, AllZip-push_both R xs ys x y h.1 r)

-- the first list, as a front and a back that go with those of the second
pub record FrontAndBack {A B : Type 0} (R : A → B
    → Type 0) (xs : List A) (ys zs : List B) : Type 0 where
  pub front : List A
  pub back : List A
  pub whole : xs ≡ front ++ back
  pub first : AllZip R front ys
  pub second : AllZip R back zs

pub front_and_back : {A B : Type 0} (R : A → B → Type 0) (xs : List A) (ys zs : List B)
    → AllZip R xs (ys ++ zs) → FrontAndBack R xs ys zs
front_and_back R xs [] zs h = record { front = []; back = xs; whole = refl; first = tt; second = h }
front_and_back R [] (y ∷ ys) zs h = absurd h
front_and_back {A} R (x ∷ xs) (y ∷ ys) zs h =
    let p = front_and_back R xs ys zs h.1 in
    record {
      front = x ∷ p.front;
      back = p.back;
      whole = ap (λ (l : List A). x ∷ l) p.whole;
      first = (h.0, p.first);
      second = p.second;
    }

-- lists after lists
pub AllZip-append : {A B : Type 0} (R : A → B
    → Type 0) (xs : List A) (ys : List B) (us : List A) (vs : List B) → AllZip R xs ys
    → AllZip R us vs → AllZip R (xs ++ us) (ys ++ vs)
AllZip-append R [] [] us vs h k = k
AllZip-append R [] (y ∷ ys) us vs h k = absurd h
AllZip-append R (x ∷ xs) [] us vs h k = absurd h
AllZip-append R (x ∷ xs) (y ∷ ys) us vs h k = (h.0, AllZip-append R xs ys us vs h.1 k)
