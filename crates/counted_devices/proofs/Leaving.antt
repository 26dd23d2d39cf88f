-- How what went out of a text grows.
use Rattle.std.proofs.Common.{◌≡◌, ◌<◌, ◌≤◌, ◌+◌, ℕ, List, [], ◌∷◌, ◌++◌, length, get_or, subst}
use Rattle.std.proofs.Common.{Result, Ok, Err, Option, Some, None, take, drop, refl, sym, ap, ◌∙◌}
use Rattle.std.proofs.Common.{append_assoc, append-nil}
use Rattle.std.proofs.lemmas.List.{take-append-drop, drop_more, drop_all, at_drop_more}
use Rattle.std.specs.Prelude.{OnErr}
use Rattle.std.specs.Borrow.{Bor}
use Rattle.std.specs.List.{flat_map}
use Rattle.std.specs.Io.KnownBytes.{Appends, Keeps}
use Rattle.counted_devices.specs.Sendings.{Leaves, AppendsPrefix, pieces_text}

pub Appends-nothing : (a : Option (List ℕ)) → Appends a a []
Appends-nothing None = tt
Appends-nothing (Some xs) = sym (append-nil xs)

Appends-kept : (a b : Option (List ℕ)) → Keeps a b → Appends a b []
Appends-kept None b h = tt
Appends-kept (Some xs) None h = h
Appends-kept (Some xs) (Some ys) h = h ∙ sym (append-nil xs)

Appends-both : (a b c : Option (List ℕ)) (xs ys : List ℕ) → Appends a b xs → Appends b c ys
    → Appends a c (xs ++ ys)
Appends-both None b c xs ys h k = tt
Appends-both (Some zs) None c xs ys h k = absurd h
Appends-both (Some zs) (Some us) None xs ys h k = k
Appends-both (Some zs) (Some us) (Some vs) xs ys h k =
    k ∙ ap (λ (l : List ℕ). l ++ ys) h ∙ append_assoc zs xs ys

pub Leaves-all : (a : Option (List ℕ)) (text : List ℕ) → Leaves a a text text
Leaves-all a text = record { out = []; sent = Appends-nothing a; whole = refl }

-- the first n bytes of the rest went out
pub Leaves-fewer : (a b c : Option (List ℕ)) (text rest : List ℕ) (n : ℕ) → Leaves a b text rest
    → Appends b c (take n rest) → Leaves a c text (drop n rest)
Leaves-fewer a b c text rest n h more = record {
  out = h.out ++ take n rest;
  sent = Appends-both a b c h.out (take n rest) h.sent more;
  whole = h.whole ∙ ap (λ (l : List ℕ). h.out ++ l) (sym (take-append-drop n rest))
      ∙ sym (append_assoc h.out (take n rest) (drop n rest));
}

-- nothing more went out
pub Leaves-kept : (a b c : Option (List ℕ)) (text rest : List ℕ) → Leaves a b text rest → Keeps b c
    → Leaves a c text rest
Leaves-kept a b c text rest h kept = record {
  out = h.out ++ [];
  sent = Appends-both a b c h.out [] h.sent (Appends-kept b c kept);
  whole = h.whole ∙ ap (λ (l : List ℕ). l ++ rest) (sym (append-nil h.out));
}

pub Leaves-none : (a b : Option (List ℕ)) (text : List ℕ) → Appends a b text → Leaves a b text []
Leaves-none a b text h = record { out = text; sent = h; whole = sym (append-nil text) }

-- of the rest's front some went out
pub Leaves-more : (a b c : Option (List ℕ)) (text front behind rest : List ℕ)
    → Leaves a b text (front ++ behind) → Leaves b c front rest → Leaves a c text (rest ++ behind)
Leaves-more a b c text front behind rest h k = record {
  out = h.out ++ k.out;
  sent = Appends-both a b c h.out k.out h.sent k.sent;
  whole = h.whole ∙ ap (λ (l : List ℕ). h.out ++ (l ++ behind)) k.whole
      ∙ ap (λ (l : List ℕ). h.out ++ l) (append_assoc k.out rest behind)
      ∙ sym (append_assoc h.out k.out (rest ++ behind));
}

pub AppendsPrefix-more : (a b c : Option (List ℕ)) (text front behind : List ℕ)
    → Leaves a b text (front ++ behind) → AppendsPrefix b c front → AppendsPrefix a c text
AppendsPrefix-more a b c text front behind h k =
    (k.0 ++ behind, Leaves-more a b c text front behind k.0 h k.1)

pub AppendsPrefix-nothing : (a : Option (List ℕ)) (text : List ℕ) → AppendsPrefix a a text
AppendsPrefix-nothing a text = (text, Leaves-all a text)

-- of pieces the next one is ahead
pub Leaves-piece : (a b : Option (List ℕ)) (pieces : List (Bor (List ℕ))) (i : ℕ)
    (none : Bor (List ℕ)) → i < length pieces
    → Leaves a b (pieces_text pieces) (pieces_text (drop i pieces))
    → Leaves a b (pieces_text pieces) ((get_or pieces i none).now
    ++ pieces_text (drop (i + 1) pieces))
Leaves-piece a b pieces i none lt left =
    let P : List ℕ → Type 0 = λ text. Leaves a b (pieces_text pieces) text in
    subst P (at_drop_more pieces_text pieces i none lt) left

-- the same said of an error
pub on_err : {T E P : Type 0} (r : Result T E) → P → OnErr r P
on_err (Ok x) p = tt
on_err (Err e) p = p

-- the texts of a list's elements, one after another: the next one, and none once all are there
pub ahead : {X : Type 0} (f : X → List ℕ) (batch : List ℕ) (xs : List X) (i : ℕ) (x : X)
    → i < length xs → x ≡ get_or xs i x → batch ++ flat_map f (drop i xs) ≡ (batch ++ f x)
    ++ flat_map f (drop (i + 1) xs)
ahead {X} f batch xs i x lt at =
    ap (λ (ys : List X). batch ++ flat_map f ys) (drop_more xs i x lt
    ∙ ap (λ (y : X). y ∷ drop (i + 1) xs) (sym at))
    ∙ sym (append_assoc batch (f x) (flat_map f (drop (i + 1) xs)))

pub none_ahead : {X : Type 0} (f : X → List ℕ) (batch : List ℕ) (xs : List X) (i : ℕ)
    → length xs ≤ i → batch ++ flat_map f (drop i xs) ≡ batch
none_ahead {X} f batch xs i le =
    ap (λ (ys : List X). batch ++ flat_map f ys) (drop_all i xs le) ∙ append-nil batch

module _ {X : Type 0} (f : X → List ℕ) (a b c : Option (List ℕ)) (text batch : List ℕ) (xs : List X)
    (i : ℕ) where
  pub Leaves-next : (x : X) (rest : List ℕ) → i < length xs → x ≡ get_or xs i x
      → Leaves a b text (batch ++ flat_map f (drop i xs)) → Leaves b c (batch ++ f x) rest
      → Leaves a c text (rest ++ flat_map f (drop (i + 1) xs))
  Leaves-next x rest lt at h k =
      let P : List ℕ → Type 0 = λ r. Leaves a b text r in
      Leaves-more a b c text (batch ++ f x) (flat_map f (drop (i + 1) xs)) rest (subst P (ahead f
      batch xs i x lt at) h) k

  pub AppendsPrefix-next : (x : X) → i < length xs → x ≡ get_or xs i x
      → Leaves a b text (batch ++ flat_map f (drop i xs)) → AppendsPrefix b c (batch ++ f x)
      → AppendsPrefix a c text
  AppendsPrefix-next x lt at h k =
      let P : List ℕ → Type 0 = λ r. Leaves a b text r in
      AppendsPrefix-more a b c text (batch ++ f x) (flat_map f (drop (i + 1) xs)) (subst P (ahead f batch
      xs i x lt at) h) k

  pub AppendsPrefix-last : length xs ≤ i → Leaves a b text (batch ++ flat_map f (drop i xs))
      → AppendsPrefix b c batch → AppendsPrefix a c text
  AppendsPrefix-last le h k =
      let P : List ℕ → Type 0 = λ r. Leaves a b text r in
      AppendsPrefix-more a b c text batch [] (subst P (ap (λ (ys : List X). batch
      ++ flat_map f ys) (drop_all i xs le)) h) k
