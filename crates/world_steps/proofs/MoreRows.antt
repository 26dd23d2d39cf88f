-- One more row keeps the rows sound.
use Rattle.std.proofs.Common.{◌≡◌, ℕ, ◌+◌, ◌<◌, ◌≤◌, List, length, sym, ◌∙◌, ap, subst, inl, inr, arith}
use Rattle.std.proofs.lemmas.Option.{slice_get_within}
use Rattle.tag.proofs.Lists.{push_cases}
use Rattle.tag.specs.Tags.{Tag, IsBelow}
use Rattle.tag.specs.declared.numbers.OpId.{OpId}
use Rattle.tag.specs.declared.actions.Action.{Action}
use Rattle.tag.specs.declared.actions.Action.TheVariants.{Write}
use Rattle.tag.specs.declared.actions.Returned.{Returned}
use Rattle.recorder.specs.declared.row.Row.{Row}
use Rattle.recorder.specs.declared.row.Row.TheVariants.{Invoke, Note, Respond}
use Rattle.recorder.specs.Histories.{call_count}
use Rattle.world_steps.specs.Sound.{At, IsNoGreater, Completed, IsFromWrite, NotNoted, Answered, RowsSound, noted_below, write_count}
use Rattle.world_steps.proofs.RowLaws.{more, extends, before, count_push, same_key}
use Rattle.world_steps.proofs.Counts.{noted_below_push, noted_below_note, noted_below_wider, not_noted}
use Rattle.world_steps.proofs.WriteCounts.{from_more, write_count_note, write_count_rises}
use Rattle.world_steps.proofs.Frames.{answered_more}

-- the count of noted calls never falls
noted_rises : (R : List Row) (x : Row) (k : ℕ) → call_count (more R x) ≡ call_count R + k → noted_below R (call_count R) ≤ noted_below (more R x) (call_count (more R x))
noted_rises R x k e =
    let a : noted_below R (call_count R) ≤ noted_below (more R x) (call_count R) = noted_below_push R x (call_count R) in
    let b : noted_below (more R x) (call_count R) ≤ noted_below (more R x) (call_count (more R x)) =
    subst (λ z. noted_below (more R x) (call_count R) ≤ noted_below (more R x) z) (sym e) (noted_below_wider (more R x) (call_count R) k) in
    omega (arith, a, b)

-- ---- a response, of an answered call
pub rows_respond : (R : List Row) (op : OpId) (returned : Returned) → RowsSound R → Answered R op returned → RowsSound (more R (Respond op returned))
rows_respond R op returned rows answer =
    let x : Row = Respond op returned in
    let invokes : (p : ℕ) (o : OpId) (c : ℕ) (k : List ℕ) (a : Action) → At (more R x) p (Invoke o c k a) → At R p (Invoke o c k a) = λ p o c k a i. before R x p (Invoke o c k a) (λ e. cc) i in
    let notes : (p : ℕ) (o : OpId) (t : Tag) → At (more R x) p (Note o t) → At R p (Note o t) = λ p o t i. before R x p (Note o t) (λ e. cc) i in
    let n : call_count (more R x) ≡ call_count R + 0 = count_push R x in
    record {
      once = λ p q o c d k l a b i j. rows.once p q o c d k l a b (invokes p o c k a i) (invokes q o d l b j);
      fresh = λ p o c k a i. let h : o.0 < call_count R = rows.fresh p o c k a (invokes p o c k a i) in omega (arith, h, n);
      noted_once = λ p q o t u i j. rows.noted_once p q o t u (notes p o t i) (notes q o u j);
      noted_known = λ p o t i. let h : o.0 < call_count R = rows.noted_known p o t (notes p o t i) in omega (arith, h, n);
      sequential = λ p q o u c k l a b i j lt.
          let found : (s : ℕ) × (r : Returned) × (s < q) × At R s (Respond o r) = rows.sequential p q o u c k l a b (invokes p o c k a i) (invokes q u c l b j) lt in
          (found.0, found.1, found.2, extends R x found.0 (Respond o found.1) found.3);
      rising = λ s p q o u c d r k a b t v m n is ip iq lt im in1.
          elim (push_cases R x s (Respond o r) is) [
            | inl old ↦ rows.rising s p q o u c d r k a b t v m n old (invokes p o c k a ip) (invokes q u d k b iq) lt (notes m o t im) (notes n u v in1)
            | inr new ↦ let w : q < length R = slice_get_within R q (Invoke u d k b) (invokes q u d k b iq) in absurd (omega (arith, new.0, w, lt))
          ];
      own = λ p n o c k value t i j. rows.own p n o c k value t (invokes p o c k (Write value) i) (notes n o t j);
      bounded = λ p o t i.
          let h : t.number ≤ noted_below R (call_count R) = rows.bounded p o t (notes p o t i) in
          let g : noted_below R (call_count R) ≤ noted_below (more R x) (call_count (more R x)) = noted_rises R x 0 n in
          omega (arith, h, g);
      written = λ p m o c k a t i j. from_more R (more R x) (extends R x) k t (rows.written p m o c k a t (invokes p o c k a i) (notes m o t j));
      counted = λ p m o c k value t i j.
          let h : t.number ≤ write_count R k = rows.counted p m o c k value t (invokes p o c k (Write value) i) (notes m o t j) in
          let g : write_count R k ≤ write_count (more R x) k = write_count_rises k R x 0 n in
          omega (arith, h, g);
      answered = λ s o r i.
          elim (push_cases R x s (Respond o r) i) [
            | inl old ↦ answered_more R (more R x) (extends R x) o r (rows.answered s o r old)
            | inr new ↦
                let eo : op ≡ o = cc in
                let er : returned ≡ r = cc in
                subst (λ n. Answered (more R x) n r) eo (subst (λ n. Answered (more R x) op n) er (answered_more R (more R x) (extends R x) op returned answer))
          ];
    }

-- ---- an invocation with the next number, by a client whose calls are done
pub rows_invoke : (R : List Row) (op : OpId) (c : ℕ) (key : List ℕ) (action : Action) → RowsSound R → op.0 ≡ call_count R
    → ((p : ℕ) (o : OpId) (k : List ℕ) (a : Action) → At R p (Invoke o c k a) → Completed R o) → RowsSound (more R (Invoke op c key action))
rows_invoke R op c key action rows next done =
    let x : Row = Invoke op c key action in
    let notes : (p : ℕ) (o : OpId) (t : Tag) → At (more R x) p (Note o t) → At R p (Note o t) = λ p o t i. before R x p (Note o t) (λ e. cc) i in
    let responds : (p : ℕ) (o : OpId) (r : Returned) → At (more R x) p (Respond o r) → At R p (Respond o r) = λ p o r i. before R x p (Respond o r) (λ e. cc) i in
    let n : call_count (more R x) ≡ call_count R + 1 = count_push R x in
    -- the new call is no earlier one
    let other : (o : OpId) → op ≡ o → o.0 < call_count R → ⊥ = λ o e h. let z : op.0 ≡ o.0 = ap (λ (u : OpId). u.0) e in omega (arith, z, h, next) in
    -- a noted call was begun before
    let noted_before : (p m : ℕ) (o : OpId) (d : ℕ) (k : List ℕ) (a : Action) (t : Tag) → At (more R x) p (Invoke o d k a) → At R m (Note o t) → At R p (Invoke o d k a) =
    λ p m o d k a t i j.
    elim (push_cases R x p (Invoke o d k a) i) [
      | inl old ↦ old
      | inr new ↦ let e : op ≡ o = cc in absurd (other o e (rows.noted_known m o t j))
    ] in
    record {
      once = λ p q o d e k l a b i j.
          elim (push_cases R x p (Invoke o d k a) i) [
            | inl pold ↦ elim (push_cases R x q (Invoke o e l b) j) [
              | inl qold ↦ rows.once p q o d e k l a b pold qold
              | inr qnew ↦ let z : op ≡ o = cc in absurd (other o z (rows.fresh p o d k a pold))
            ]
            | inr pnew ↦ elim (push_cases R x q (Invoke o e l b) j) [
              | inl qold ↦ let z : op ≡ o = cc in absurd (other o z (rows.fresh q o e l b qold))
              | inr qnew ↦ pnew.0 ∙ sym qnew.0
            ]
          ];
      fresh = λ p o d k a i.
          elim (push_cases R x p (Invoke o d k a) i) [
            | inl old ↦ let h : o.0 < call_count R = rows.fresh p o d k a old in omega (arith, h, n)
            | inr new ↦ let e : op ≡ o = cc in let z : op.0 ≡ o.0 = ap (λ (u : OpId). u.0) e in omega (arith, z, n, next)
          ];
      noted_once = λ p q o t u i j. rows.noted_once p q o t u (notes p o t i) (notes q o u j);
      noted_known = λ p o t i. let h : o.0 < call_count R = rows.noted_known p o t (notes p o t i) in omega (arith, h, n);
      sequential = λ p q o u d k l a b i j lt.
          elim (push_cases R x q (Invoke u d l b) j) [
            | inl qold ↦
                let w : q < length R = slice_get_within R q (Invoke u d l b) qold in
                let pold : At R p (Invoke o d k a) = elim (push_cases R x p (Invoke o d k a) i) [ inl old ↦ old | inr new ↦ absurd (omega (arith, new.0, w, lt)) ] in
                let found : (s : ℕ) × (r : Returned) × (s < q) × At R s (Respond o r) = rows.sequential p q o u d k l a b pold qold lt in
                (found.0, found.1, found.2, extends R x found.0 (Respond o found.1) found.3)
            | inr qnew ↦
                let pold : At R p (Invoke o d k a) = elim (push_cases R x p (Invoke o d k a) i) [ inl old ↦ old | inr new ↦ absurd (omega (arith, new.0, qnew.0, lt)) ] in
                let e : d ≡ c = cc in
                let found : Completed R o = done p o k a (subst (λ m. At R p (Invoke o m k a)) e pold) in
                let w : found.place < length R = slice_get_within R found.place (Respond o found.returned) found.is in
                (found.place, found.returned, omega (arith, w, qnew.0), extends R x found.place (Respond o found.returned) found.is)
          ];
      rising = λ s p q o u d e r k a b t v m n is ip iq lt im in1.
          let nm : At R m (Note o t) = notes m o t im in
          let nn : At R n (Note u v) = notes n u v in1 in
          rows.rising s p q o u d e r k a b t v m n (responds s o r is) (noted_before p m o d k a t ip nm) (noted_before q n u e k b v iq nn) lt nm nn;
      own = λ p n o d k value t i j. let h : At R n (Note o t) = notes n o t j in rows.own p n o d k value t (noted_before p n o d k (Write value) t i h) h;
      bounded = λ p o t i.
          let h : t.number ≤ noted_below R (call_count R) = rows.bounded p o t (notes p o t i) in
          let g : noted_below R (call_count R) ≤ noted_below (more R x) (call_count (more R x)) = noted_rises R x 1 n in
          omega (arith, h, g);
      written = λ p m o d k a t i j.
          let note : At R m (Note o t) = notes m o t j in
          from_more R (more R x) (extends R x) k t (rows.written p m o d k a t (noted_before p m o d k a t i note) note);
      counted = λ p m o d k value t i j.
          let note : At R m (Note o t) = notes m o t j in
          let h : t.number ≤ write_count R k = rows.counted p m o d k value t (noted_before p m o d k (Write value) t i note) note in
          let g : write_count R k ≤ write_count (more R x) k = write_count_rises k R x 1 n in
          omega (arith, h, g);
      answered = λ s o r i. answered_more R (more R x) (extends R x) o r (rows.answered s o r (responds s o r i));
    }

-- ---- a note of a call that has none

-- a new note is above those of the completed calls that precede its own
abbrev pub AboveDone : List Row → ℕ → List ℕ → Action → Tag → Type 0
AboveDone R q k b v =
    (s p : ℕ) (o : OpId) (c m : ℕ) (r : Returned) (a : Action) (t : Tag) → At R s (Respond o r) → At R p (Invoke o c k a) → At R m (Note o t) → s < q
    → IsNoGreater t v × ((value : List ℕ) → b ≡ Write value → IsBelow t v)

-- that of a write is its client's
abbrev pub IsOwn : ℕ → Action → Tag → Type 0
IsOwn c action tag = (value : List ℕ) → action ≡ Write value → (0 < tag.number) × (tag.writer ≡ c)

pub rows_note : (R : List Row) (op : OpId) (c q : ℕ) (key : List ℕ) (action : Action) (tag : Tag) → RowsSound R
    → At R q (Invoke op c key action) → NotNoted R op → AboveDone R q key action tag → IsOwn c action tag → tag.number ≤ noted_below R (call_count R) + 1
    → IsFromWrite (more R (Note op tag)) key tag → tag.number ≤ write_count R key + 1
    → RowsSound (more R (Note op tag))
rows_note R op c q key action tag rows known quiet above mine small written few =
    let x : Row = Note op tag in
    let invokes : (p : ℕ) (o : OpId) (d : ℕ) (k : List ℕ) (a : Action) → At (more R x) p (Invoke o d k a) → At R p (Invoke o d k a) = λ p o d k a i. before R x p (Invoke o d k a) (λ e. cc) i in
    let responds : (p : ℕ) (o : OpId) (r : Returned) → At (more R x) p (Respond o r) → At R p (Respond o r) = λ p o r i. before R x p (Respond o r) (λ e. cc) i in
    let n : call_count (more R x) ≡ call_count R + 0 = count_push R x in
    -- a completed call was noted before
    let not_done : (s : ℕ) (o : OpId) (r : Returned) → At R s (Respond o r) → op ≡ o → ⊥ =
    λ s o r i e. let found : Answered R o r = rows.answered s o r i in quiet found.note found.pair.tag (subst (λ m. At R found.note (Note m found.pair.tag)) (sym e) found.noted) in
    record {
      once = λ p q o c d k l a b i j. rows.once p q o c d k l a b (invokes p o c k a i) (invokes q o d l b j);
      fresh = λ p o c k a i. let h : o.0 < call_count R = rows.fresh p o c k a (invokes p o c k a i) in omega (arith, h, n);
      noted_once = λ p q o t u i j.
          elim (push_cases R x p (Note o t) i) [
            | inl pold ↦ elim (push_cases R x q (Note o u) j) [
              | inl qold ↦ rows.noted_once p q o t u pold qold
              | inr qnew ↦ let e : o ≡ op = cc in absurd (quiet p t (subst (λ m. At R p (Note m t)) e pold))
            ]
            | inr pnew ↦ elim (push_cases R x q (Note o u) j) [
              | inl qold ↦ let e : o ≡ op = cc in absurd (quiet q u (subst (λ m. At R q (Note m u)) e qold))
              | inr qnew ↦ cc
            ]
          ];
      noted_known = λ p o t i.
          elim (push_cases R x p (Note o t) i) [
            | inl old ↦ let h : o.0 < call_count R = rows.noted_known p o t old in omega (arith, h, n)
            | inr new ↦
                let e : op ≡ o = cc in
                let z : op.0 ≡ o.0 = ap (λ (u : OpId). u.0) e in
                let h : op.0 < call_count R = rows.fresh q op c key action known in
                omega (arith, z, h, n)
          ];
      sequential = λ p q o u c k l a b i j lt.
          let found : (s : ℕ) × (r : Returned) × (s < q) × At R s (Respond o r) = rows.sequential p q o u c k l a b (invokes p o c k a i) (invokes q u c l b j) lt in
          (found.0, found.1, found.2, extends R x found.0 (Respond o found.1) found.3);
      rising = λ s p z o u d e r k a b t v m n is ip iz lt im in1.
          let rs : At R s (Respond o r) = responds s o r is in
          let hp : At R p (Invoke o d k a) = invokes p o d k a ip in
          let hz : At R z (Invoke u e k b) = invokes z u e k b iz in
          elim (push_cases R x m (Note o t) im) [
            | inl mold ↦ elim (push_cases R x n (Note u v) in1) [
              | inl nold ↦ rows.rising s p z o u d e r k a b t v m n rs hp hz lt mold nold
              | inr nnew ↦
                  let eu : u ≡ op = cc in
                  let ev : tag ≡ v = cc in
                  let hop : At R z (Invoke op e k b) = subst (λ w. At R z (Invoke w e k b)) eu hz in
                  let places : z ≡ q = rows.once z q op e c k key b action hop known in
                  let hq : At R q (Invoke op e k b) = subst (λ w. At R w (Invoke op e k b)) places hop in
                  let ek : k ≡ key = cc in
                  let eb : b ≡ action = cc in
                  let slt : s < q = omega (arith, places, lt) in
                  let found : IsNoGreater t tag × ((value : List ℕ) → action ≡ Write value → IsBelow t tag) =
                  above s p o d m r a t rs (subst (λ w. At R p (Invoke o d w a)) ek hp) mold slt in
                  subst (λ w. IsNoGreater t w × ((value : List ℕ) → b ≡ Write value → IsBelow t w)) ev (found.0, λ value h. found.1 value (sym eb ∙ h))
            ]
            | inr mnew ↦ let eo : op ≡ o = cc in absurd (not_done s o r rs eo)
          ];
      own = λ p m o d k value t i j.
          elim (push_cases R x m (Note o t) j) [
            | inl old ↦ rows.own p m o d k value t (invokes p o d k (Write value) i) old
            | inr new ↦
                let eo : o ≡ op = cc in
                let et : tag ≡ t = cc in
                let h : At R p (Invoke op d k (Write value)) = subst (λ w. At R p (Invoke w d k (Write value))) eo (invokes p o d k (Write value) i) in
                let places : p ≡ q = rows.once p q op d c k key (Write value) action h known in
                let hq : At R q (Invoke op d k (Write value)) = subst (λ w. At R w (Invoke op d k (Write value))) places h in
                let ed : c ≡ d = cc in
                let ea : action ≡ Write value = cc in
                subst (λ w. (0 < w.number) × (w.writer ≡ d)) et (subst (λ w. (0 < tag.number) × (tag.writer ≡ w)) ed (mine value ea))
          ];
      bounded = λ p o t i.
          let fresh : op.0 < call_count R = rows.fresh q op c key action known in
          let g : noted_below R (call_count R) + 1 ≤ noted_below (more R x) (call_count R) = noted_below_note R op tag (call_count R) (not_noted R op quiet) fresh in
          let m : call_count (more R x) ≡ call_count R = omega (arith, n) in
          let e : noted_below (more R x) (call_count (more R x)) ≡ noted_below (more R x) (call_count R) = ap (noted_below (more R x)) m in
          elim (push_cases R x p (Note o t) i) [
            | inl old ↦ let h : t.number ≤ noted_below R (call_count R) = rows.bounded p o t old in omega (arith, h, g, e)
            | inr new ↦ let h : tag ≡ t = cc in let z : tag.number ≡ t.number = ap (λ (u : Tag). u.number) h in omega (arith, z, small, g, e)
          ];
      written = λ p m o d k a t i j.
          elim (push_cases R x m (Note o t) j) [
            | inl old ↦ from_more R (more R x) (extends R x) k t (rows.written p m o d k a t (invokes p o d k a i) old)
            | inr new ↦
                let eo : o ≡ op = cc in
                let et : tag ≡ t = cc in
                let h : At R p (Invoke op d k a) = subst (λ w. At R p (Invoke w d k a)) eo (invokes p o d k a i) in
                let ek : key ≡ k = same_key R rows q p op c d key k action a known h in
                subst (λ w. IsFromWrite (more R x) k w) et (subst (λ w. IsFromWrite (more R x) w tag) ek written)
          ];
      counted = λ p m o d k value t i j.
          elim (push_cases R x m (Note o t) j) [
            | inl old ↦
                let h : t.number ≤ write_count R k = rows.counted p m o d k value t (invokes p o d k (Write value) i) old in
                let g : write_count R k ≤ write_count (more R x) k = write_count_rises k R x 0 n in
                omega (arith, h, g)
            | inr new ↦
                let eo : o ≡ op = cc in
                let et : tag ≡ t = cc in
                let z : tag.number ≡ t.number = ap (λ (u : Tag). u.number) et in
                let h : At R p (Invoke op d k (Write value)) = subst (λ w. At R p (Invoke w d k (Write value))) eo (invokes p o d k (Write value) i) in
                let ek : key ≡ k = same_key R rows q p op c d key k action (Write value) known h in
                let fresh : op.0 < call_count R = rows.fresh q op c key action known in
                let g : write_count R k + 1 ≤ write_count (more R x) k = write_count_note R p op d k value tag h fresh (not_noted R op quiet) in
                let f : tag.number ≤ write_count R k + 1 = subst (λ w. tag.number ≤ write_count R w + 1) ek few in
                omega (arith, z, g, f)
          ];
      answered = λ s o r i. answered_more R (more R x) (extends R x) o r (rows.answered s o r (responds s o r i));
    }
