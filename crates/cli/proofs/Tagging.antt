-- What the tags make of keys, one key more.
use Rattle.std.proofs.Common.{ℕ, ◌≡◌, ◌<◌, ◌≤◌, ◌+◌, List, [], ◌∷◌, ◌++◌, Some, append_assoc, append-nil, length, map, take, get_or, refl, sym, ap, subst, ◌∙◌, arith}
use Rattle.parallel_keys.specs.CheckedKeys.{KeyParts, all_parts}
use Rattle.std.specs.List.{slice_get}
use Rattle.parallel_keys.proofs.Fronts.{front_at}
use Rattle.cli.proofs.Prefixes.{halls_more}
use Rattle.tag.specs.declared.numbers.OpId.{OpId}
use Rattle.recorder.specs.declared.order.KeyOrder.{KeyOrder}
use Rattle.recorder.specs.Sound.{IsByTag}
use Rattle.cli.specs.Justifications.{KeyPart, no_note_text}
use Rattle.cli.specs.TagOrders.{AreMade, AreTagged, IsTagged, LeftOut, Ordered, Tagged, left_out_count, left_out_text, orders_of}
use Rattle.cli.specs.declared.tag_orders.TagOrders.{TagOrders}

tagged-append : (xs ys : List KeyPart) (ts us : List Tagged) → AreTagged xs ts → AreTagged ys us → AreTagged (xs ++ ys) (ts ++ us)
tagged-append [] ys [] us are more = more
tagged-append [] ys (t ∷ ts) us are more = absurd are
tagged-append (x ∷ xs) ys [] us are more = absurd are
tagged-append (x ∷ xs) ys (t ∷ ts) us are more = (are.0, tagged-append xs ys ts us are.1 more)

orders_of-append : (ts us : List Tagged) → orders_of (ts ++ us) ≡ orders_of ts ++ orders_of us
orders_of-append [] us = refl
orders_of-append (Ordered order ∷ ts) us = ap (λ (l : List KeyOrder). order ∷ l) (orders_of-append ts us)
orders_of-append (LeftOut key op ∷ ts) us = orders_of-append ts us

left_out_text-append : (ts us : List Tagged) → left_out_text (ts ++ us) ≡ left_out_text ts ++ left_out_text us
left_out_text-append [] us = refl
left_out_text-append (Ordered order ∷ ts) us = left_out_text-append ts us
left_out_text-append (LeftOut key op ∷ ts) us =
    ap (λ (l : List ℕ). no_note_text key op ++ l) (left_out_text-append ts us) ∙ sym (append_assoc (no_note_text key op) (left_out_text ts) (left_out_text us))

-- nothing is made of no key
pub made_none : (made : TagOrders) → made.orders.items ≡ [] → made.left_out.items ≡ [] → AreMade [] made
made_none made orders lines = record { tagged = []; are = tt; orders = orders; lines = lines }

made_more : (before : List KeyPart) (entry : KeyPart) (one : Tagged) (old new : TagOrders) → AreMade before old → IsTagged entry one
    → new.orders.items ≡ old.orders.items ++ orders_of (one ∷ []) → new.left_out.items ≡ old.left_out.items ++ left_out_text (one ∷ [])
    → AreMade (before ++ entry ∷ []) new
made_more before entry one old new so_far here orders lines = record {
  tagged = so_far.tagged ++ one ∷ [];
  are = tagged-append before (entry ∷ []) so_far.tagged (one ∷ []) so_far.are (here, tt);
  orders = orders ∙ ap (λ (l : List KeyOrder). l ++ orders_of (one ∷ [])) so_far.orders ∙ sym (orders_of-append so_far.tagged (one ∷ []));
  lines = lines ∙ ap (λ (l : List ℕ). l ++ left_out_text (one ∷ [])) so_far.lines ∙ sym (left_out_text-append so_far.tagged (one ∷ []));
}

-- a key more has its order
pub ordered_more : (before : List KeyPart) (entry : KeyPart) (order : KeyOrder) (old new : TagOrders) → AreMade before old
    → order.key ≡ entry.0 → IsByTag entry.1 order.order → new.orders.items ≡ old.orders.items ++ order ∷ [] → new.left_out.items ≡ old.left_out.items
    → AreMade (before ++ entry ∷ []) new
ordered_more before entry order old new so_far same by_tag orders lines =
    made_more before entry (Ordered order) old new so_far (record { same_key = same; by_tag = by_tag }) orders (lines ∙ sym (append-nil old.left_out.items))

-- a key more is left out
pub left_out_more : (before : List KeyPart) (entry : KeyPart) (op : OpId) (old new : TagOrders) → AreMade before old
    → IsTagged entry (LeftOut entry.0 op) → new.orders.items ≡ old.orders.items → new.left_out.items ≡ old.left_out.items ++ no_note_text entry.0 op
    → AreMade (before ++ entry ∷ []) new
left_out_more before entry op old new so_far here orders lines =
    made_more before entry (LeftOut entry.0 op) old new so_far here (orders ∙ sym (append-nil old.orders.items))
    (lines ∙ ap (λ (l : List ℕ). old.left_out.items ++ l) (sym (append-nil (no_note_text entry.0 op))))

-- a front of the keys with one key more
pub hall_front_more : (before parts : List KeyPart) (i : ℕ) (entry : KeyPart) (made : TagOrders) → slice_get parts i ≡ Some entry
    → AreMade ((before ++ take i parts) ++ entry ∷ []) made → AreMade (before ++ take (i + 1) parts) made
hall_front_more before parts i entry made at so_far =
    subst (λ (l : List KeyPart). AreMade l made)
    (append_assoc before (take i parts) (entry ∷ []) ∙ ap (λ (l : List KeyPart). before ++ l) (sym (front_at parts i entry at))) so_far

-- a hall more
pub hall_made : {X : Type 0} (parts_in : X → KeyParts) (maps : List X) (i : ℕ) (own : X) → i < length maps → own ≡ get_or maps i own → (made : TagOrders)
    → AreMade (all_parts (map parts_in (take i maps)) ++ parts_in own) made → AreMade (all_parts (map parts_in (take (i + 1) maps))) made
hall_made parts_in maps i own below is made so_far = subst (λ (l : List KeyPart). AreMade l made) (sym (halls_more parts_in maps i own below is)) so_far

-- no line is said if no key is left out, and else some
pub none_left_out : (tagged : List Tagged) → left_out_text tagged ≡ [] → left_out_count tagged ≡ 0
unfolding no_note_text
none_left_out [] none = refl
none_left_out (Ordered order ∷ tagged) none = none_left_out tagged none
none_left_out (LeftOut key op ∷ tagged) none = absurd (cc)

pub some_left_out : (tagged : List Tagged) → (left_out_text tagged ≡ [] → ⊥) → 1 ≤ left_out_count tagged
some_left_out [] some = absurd (some refl)
some_left_out (Ordered order ∷ tagged) some = some_left_out tagged some
some_left_out (LeftOut key op ∷ tagged) some = omega arith
