-- What went out to the writers, and what waits.
use Rattle.std.proofs.Common.{ℕ, ◌≡◌, ◌+◌, length-append, inl, inr, List, [], ◌∷◌, ◌++◌, Option, Some, None, Result, Ok, Err, OnOk, set, append_assoc, length, take, drop, ◌<◌, ◌≤◌}
use Rattle.std.proofs.Common.{sym, ◌∙◌, ap, subst, refl, arith}
use Rattle.std.specs.List.{slice_get}
use Rattle.std.specs.Prelude.{Vec}
use Rattle.std.specs.Io.KnownBytes.{Appends, append_known}
use Rattle.std.specs.declared.alloc.Global.{Global}
use Rattle.std.proofs.lemmas.List.{append-nil, drop_all, take_all}
use Rattle.std.proofs.lemmas.Option.{same_Some, slice_get_within}
use Rattle.counted_devices.specs.Sendings.{Sends, SendsBut}
use Rattle.tag.proofs.Below.{below_or_next}
use Rattle.tag.proofs.Lists.{push_cases, set_cases}
use Rattle.tag.proofs.Options.{none_some}
use Rattle.split_command.specs.PieceTexts.{AreBegun, AreFresh, AreHeaders, HasOnly, HaveTexts, IsBegun, IsLonger, header_text}

pub ok_then : {E P Q : Type 0} (r : Result (Unit {0}) E) → (P → Q) → OnOk r P → OnOk r Q
ok_then (Ok done) f p = f p
ok_then (Err e) f p = tt

-- ---- known bytes

more_waits : (out : Option (List ℕ)) (waits more text : List ℕ) → append_known out waits ≡ Some text
    → append_known out (waits ++ more) ≡ Some (text ++ more)
more_waits None waits more text h = none_some h
more_waits (Some xs) waits more text h =
    ap Some (sym (append_assoc xs waits more) ∙ ap (λ (l : List ℕ). l ++ more) (same_Some (xs ++ waits) text h))

some_sent : (old new : Option (List ℕ)) (waits sent rest text : List ℕ) → Appends old new sent → waits ≡ sent ++ rest
    → append_known old waits ≡ Some text → append_known new rest ≡ Some text
some_sent None new waits sent rest text a whole h = none_some h
some_sent (Some xs) None waits sent rest text a whole h = absurd a
some_sent (Some xs) (Some ys) waits sent rest text a whole h =
    ap Some (ap (λ (l : List ℕ). l ++ rest) a ∙ append_assoc xs sent rest ∙ ap (λ (l : List ℕ). xs ++ l) (sym whole)
    ∙ same_Some (xs ++ waits) text h)

all_sent : (old new : Option (List ℕ)) (waits text : List ℕ) → Appends old new waits → append_known old waits ≡ Some text → new ≡ Some text
all_sent None new waits text a h = none_some h
all_sent (Some xs) None waits text a h = absurd a
all_sent (Some xs) (Some ys) waits text a h = ap Some (a ∙ same_Some (xs ++ waits) text h)

none_sent : (out : Option (List ℕ)) (waits : List ℕ) → out ≡ Some [] → append_known out waits ≡ Some waits
none_sent out waits h = ap (λ (o : Option (List ℕ)). append_known o waits) h

module _ {W : Type 0} (contents : W → Option (List ℕ)) where
  -- ---- one writer and what waits for it are others

  set_begun : (texts later : ℕ → List ℕ) (writers : List W) (waiting : List (Vec ℕ Global)) (p : ℕ) (writer : W) (waits : Vec ℕ Global)
      → AreBegun contents texts writers waiting → ((q : ℕ) → (q ≡ p → ⊥) → later q ≡ texts q)
      → IsBegun contents (later p) writer waits.items → AreBegun contents later (set writers p writer) (set waiting p waits)
  set_begun texts later writers waiting p writer waits are others own q w v at_w at_v = elim (set_cases writers p writer q w at_w) [
    | inl a ↦ elim (set_cases waiting p waits q v at_v) [
      | inl b ↦ λ known.
          ap (λ (o : W). append_known (contents o) v.items) (sym a.1) ∙ ap (λ (o : Vec ℕ Global). append_known (contents writer) o.items) (sym b.1)
          ∙ own known ∙ ap (λ (n : ℕ). Some (later n)) (sym a.0)
      | inr b ↦ absurd (b.0 a.0)
    ]
    | inr a ↦ elim (set_cases waiting p waits q v at_v) [
      | inl b ↦ absurd (a.0 b.0)
      | inr b ↦ λ known. are q w v a.1 b.1 known ∙ ap Some (sym (others q a.0))
    ]
  ]

  pub relieved : (texts : ℕ → List ℕ) (writers : List W) (waiting : List (Vec ℕ Global)) (p : ℕ) (w new : W) (v rest : Vec ℕ Global)
      → slice_get writers p ≡ Some w → slice_get waiting p ≡ Some v → SendsBut contents w new v.items rest.items
      → AreBegun contents texts writers waiting → AreBegun contents texts (set writers p new) (set waiting p rest)
  relieved texts writers waiting p w new v rest at_w at_v sent are = set_begun texts texts writers waiting p new rest are (λ q apart. refl)
      (λ known. some_sent (contents w) (contents new) v.items sent.out rest.items (texts p) sent.sent sent.whole (are p w v at_w at_v known))

  -- ---- a text more waits

  pub added : (texts later : ℕ → List ℕ) (writers : List W) (waiting : List (Vec ℕ Global)) (p : ℕ) (v new : Vec ℕ Global) (more : List ℕ)
      → slice_get waiting p ≡ Some v → new.items ≡ v.items ++ more → IsLonger texts later p more
      → AreBegun contents texts writers waiting → AreBegun contents later writers (set waiting p new)
  added texts later writers waiting p v new more at is longer are q w u at_w at_u = elim (set_cases waiting p new q u at_u) [
    | inl b ↦ λ known.
        ap (λ (o : Vec ℕ Global). append_known (contents w) o.items) (sym b.1) ∙ ap (append_known (contents w)) is
        ∙ more_waits (contents w) v.items more (texts p)
        (are p w v (ap (slice_get writers) (sym b.0) ∙ at_w) at known)
        ∙ ap Some (sym longer.here ∙ ap later (sym b.0))
    | inr b ↦ λ known. are q w u at_w b.1 known ∙ ap Some (sym (longer.others q b.0))
  ]

  -- ---- all went out

  pub sent_all : (text : List ℕ) (w new : W) (v : List ℕ) → IsBegun contents text w v → Sends contents w new v → HasOnly contents text new
  sent_all text w new v begun sent known = all_sent (contents w) (contents new) v text sent (begun known)

  -- the texts below a number went out, and the other writers are as they were
  pub record AreSentTo (pieces : ℕ → List ℕ) (old now : List W) (n : ℕ) : Type 0 where
    pub sent : (q : ℕ) (w : W) → q < n → slice_get now q ≡ Some w → HasOnly contents (pieces q) w
    pub left : (q : ℕ) (w : W) → n ≤ q → slice_get now q ≡ Some w → slice_get old q ≡ Some w

  pub none_yet : (pieces : ℕ → List ℕ) (old : List W) → AreSentTo pieces old old 0
  none_yet pieces old = record { sent = λ q w less at. absurd (omega (arith, less)); left = λ q w late at. at }

  pub one_more_sent : (pieces : ℕ → List ℕ) (texts : List (Vec ℕ Global)) (old now : List W) (n : ℕ) (w new : W) (v : Vec ℕ Global)
      → slice_get now n ≡ Some w → slice_get texts n ≡ Some v → Sends contents w new v.items → AreBegun contents pieces old texts
      → AreSentTo pieces old now n → AreSentTo pieces old (set now n new) (n + 1)
  one_more_sent pieces texts old now n w new v at_w at_v sends are so_far = record {
    sent = λ q u less at. elim (set_cases now n new q u at) [
      | inl a ↦ λ known.
          ap contents (sym a.1)
          ∙ sent_all (pieces n) w new v.items (are n w v (so_far.left n w (omega arith) at_w) at_v) sends known
          ∙ ap (λ (m : ℕ). Some (pieces m)) (sym a.0)
      | inr a ↦ elim (below_or_next q n less) [ inl b ↦ so_far.sent q u b a.1 | inr b ↦ absurd (a.0 b) ]
    ];
    left = λ q u late at. elim (set_cases now n new q u at) [
      | inl a ↦ absurd (omega (arith, late, a.0))
      | inr a ↦ so_far.left q u (omega (arith, late)) a.1
    ];
  }

  pub all_sent_to : (pieces : ℕ → List ℕ) (old now : List W) (n : ℕ) → length now ≤ n → AreSentTo pieces old now n
      → HaveTexts contents pieces now
  all_sent_to pieces old now n all so_far q w at =
      let within = slice_get_within now q w at in
      so_far.sent q w (omega (arith, all, within)) at

  pub same_writers : (old now : List W) (n : ℕ) (pieces : ℕ → List ℕ) → n ≡ length old → length now ≡ length old
      → HaveTexts contents pieces now → HaveTexts contents pieces (take n (now ++ drop (length now) old))
  same_writers old now n pieces many same have =
      let none : drop (length now) old ≡ [] = drop_all (length now) old (omega (arith, same)) in
      let whole : now ++ drop (length now) old ≡ now = ap (λ (l : List W). now ++ l) none ∙ append-nil now in
      subst (HaveTexts contents pieces) (sym (ap (take n) whole ∙ take_all n now (omega (arith, many, same)))) have

  -- ---- nothing went out

  pub begun_new : (writers : List W) (waiting : List (Vec ℕ Global)) → AreFresh contents writers
      → ((p : ℕ) (text : Vec ℕ Global) → slice_get waiting p ≡ Some text → text.items ≡ header_text)
      → AreBegun contents (λ p. header_text) writers waiting
  begun_new writers waiting fresh each p w v at_w at_v known =
      none_sent (contents w) v.items (fresh p w at_w known) ∙ ap Some (each p v at_v)

-- ---- headers

pub no_headers : AreHeaders 0 []
no_headers = record { many = refl; each = λ p text at. none_some at }

pub one_header_more : (n : ℕ) (texts now : List (Vec ℕ Global)) (text : Vec ℕ Global) → AreHeaders n texts → now ≡ texts ++ text ∷ []
    → text.items ≡ header_text → AreHeaders (n + 1) now
one_header_more n texts now text are is head = subst (AreHeaders (n + 1)) (sym is) (record {
  many = length-append texts (text ∷ []) ∙ ap (λ (m : ℕ). m + 1) are.many;
  each = λ p t at. elim (push_cases texts text p t at) [
    | inl w ↦ are.each p t w
    | inr w ↦ ap (λ (v : Vec ℕ Global). v.items) (sym w.1) ∙ head
  ];
})
