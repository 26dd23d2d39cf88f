-- Slots, and what changes in them leave.
use Rattle.std.proofs.Common.{ℕ, zero, suc, ◌≡◌, ◌≢◌, ◌<◌, inl, inr, Bool, true, false, MatchBool, cond, List, [], ◌∷◌, ◌++◌, Option, Some, None, length, set, get_or, ap, sym, subst, ◌∙◌, refl, eq-eqb}
use Rattle.std.proofs.lemmas.Bool.{cases_eq, ne_eqb}
use Rattle.std.proofs.lemmas.Option.{none-some}
use Rattle.tag.proofs.Lists.{item_at, slice_get-set}
use Rattle.open_calls.specs.declared.open_call.OpenCall.{OpenCall}
use Rattle.open_calls.specs.Numbered.{AreHome, Empties, IsElsewhere, IsNoted, Leaves, MovesOut, Notes, Puts, Sets}
use Rattle.open_calls.specs.Numbered.{flat, held_in, home_of, left_in, or_else, slot_of, value_of}

module _ {X : Type 0} where
  -- a slot that is empty makes no difference
  pub slot_push : (slots : List (Option (ℕ × X))) (place : ℕ) → slot_of (slots ++ None ∷ []) place ≡ slot_of slots place
  slot_push [] zero = refl
  slot_push [] (suc place) = refl
  slot_push (slot ∷ slots) zero = refl
  slot_push (slot ∷ slots) (suc place) = slot_push slots place

  pub slot_read : (slots : List (Option (ℕ × X))) (place : ℕ) (slot : Option (ℕ × X)) → place < length slots → slot ≡ get_or slots place slot → slot_of slots place ≡ slot
  slot_read slots place slot below is = ap flat (item_at slots place slot below is)

  pub slot_put : (slots : List (Option (ℕ × X))) (place : ℕ) (slot : Option (ℕ × X)) → place < length slots → Puts (slot_of slots) place slot (slot_of (set slots place slot))
  slot_put slots place slot below = record {
    here = elim (slice_get-set slots place place slot below) [
      | inl w ↦ ap flat w.1
      | inr w ↦ absurd (w.0 refl)
    ];
    others = λ at apart. elim (slice_get-set slots place at slot below) [
      | inl w ↦ absurd (apart w.0)
      | inr w ↦ ap flat w.1
    ];
  }

  -- ---- what is held in a slot
  pub held_of : (e : ℕ × X) (number : ℕ) → e.0 ≡ number → held_in (Some e) number ≡ Some e.1
  held_of e number same = ap (λ b. cond b (Some e.1) None) (eq-eqb e.0 number same)

  pub held_not : (e : ℕ × X) (number : ℕ) → e.0 ≢ number → held_in (Some e) number ≡ None
  held_not e number apart = ap (λ b. cond b (Some e.1) None) (ne_eqb e.0 number apart)

  left_of : (e : ℕ × X) (number : ℕ) → e.0 ≡ number → left_in (Some e) number ≡ None
  left_of e number same = ap (λ b. cond b None (Some e)) (eq-eqb e.0 number same)

  left_not : (e : ℕ × X) (number : ℕ) → e.0 ≢ number → left_in (Some e) number ≡ Some e
  left_not e number apart = ap (λ b. cond b None (Some e)) (ne_eqb e.0 number apart)

  -- what is left doesn't have the number, and has each other
  pub left_here : (slot : Option (ℕ × X)) (number : ℕ) → held_in (left_in slot number) number ≡ None
  left_here None number = refl
  left_here (Some e) number = elim (cases_eq e.0 number) [
    | inl same ↦ ap (λ s. held_in s number) (left_of e number same)
    | inr apart ↦ ap (λ s. held_in s number) (left_not e number apart) ∙ held_not e number apart
  ]

  pub left_there : (slot : Option (ℕ × X)) (number other : ℕ) → other ≢ number → held_in (left_in slot number) other ≡ held_in slot other
  left_there None number other differ = refl
  left_there (Some e) number other differ = elim (cases_eq e.0 number) [
    | inl same ↦ ap (λ s. held_in s other) (left_of e number same) ∙ sym (held_not e other (λ is. differ (sym is ∙ same)))
    | inr apart ↦ ap (λ s. held_in s other) (left_not e number apart)
  ]

  -- ---- values
  or_same : (a b : Option X) (c d : Option X) → a ≡ b → c ≡ d → or_else a c ≡ or_else b d
  or_same a b c d one two = ap (λ x. or_else x c) one ∙ ap (or_else b) two

  or_none : (a b c : Option X) → a ≡ None → b ≡ c → or_else a b ≡ c
  or_none a b c none is = ap (λ x. or_else x b) none ∙ is

  first_none : (a b : Option X) → or_else a b ≡ None → a ≡ None
  first_none None b e = refl
  first_none (Some x) b e = e

  rest_none : (a b : Option X) → or_else a b ≡ None → b ≡ None
  rest_none None b e = e
  rest_none (Some x) b e = absurd (none-some x (sym e))

  -- the value of a number is taken out of the tree
  pub gone_from_others : (slots left : ℕ → Option (ℕ × X)) (others fewer : ℕ → Option X) (number : ℕ) → Leaves slots number left → Sets others number None fewer → Sets (value_of slots others) number None (value_of left fewer)
  gone_from_others slots left others fewer number leaves gone = record {
    here = or_none (held_in (left (home_of number)) number) (fewer number) None (ap (λ s. held_in s number) leaves.here ∙ left_here (slots (home_of number)) number) gone.here;
    others = λ q apart. or_same (held_in (left (home_of q)) q) (held_in (slots (home_of q)) q) (fewer q) (others q) (elim (cases_eq (home_of q) (home_of number)) [
      | inl same ↦ ap (λ place. held_in (left place) q) same ∙ (ap (λ s. held_in s q) leaves.here ∙ (left_there (slots (home_of number)) number q apart ∙ ap (λ place. held_in (slots place) q) (sym same)))
      | inr differ ↦ ap (λ s. held_in s q) (leaves.others (home_of q) differ)
    ]) (gone.others q apart);
  }

  -- what moved out is found among the others
  moved_value : (slot : Option (ℕ × X)) (others more : ℕ → Option X) (q : ℕ) → MovesOut slot others more → more q ≡ or_else (held_in slot q) (others q)
  moved_value None others more q moves = moves q
  moved_value (Some e) others more q moves = elim (cases_eq e.0 q) [
    | inl same ↦ ap more (sym same) ∙ (moves.here ∙ ap (λ x. or_else x (others q)) (sym (held_of e q same)))
    | inr apart ↦ moves.others q (λ is. apart (sym is)) ∙ ap (λ x. or_else x (others q)) (sym (held_not e q apart))
  ]

  -- and each other number is as it was
  moved_other : (slot : Option (ℕ × X)) (others more : ℕ → Option X) (q : ℕ) → MovesOut slot others more → ((value : X) → slot ≡ Some (q, value) → ⊥) → more q ≡ others q
  moved_other None others more q moves none = moves q
  moved_other (Some e) others more q moves none = moves.others q (λ is. none e.1 (ap (λ n. Some (n, e.1)) (sym is)))

  -- the value of a new number is put into its slot, and what stood there goes to the others
  pub put_value : (old made emptied put : ℕ → Option (ℕ × X)) (others more : ℕ → Option X) (number home : ℕ) (value : X) → home ≡ home_of number → AreHome old others → ((place : ℕ) → made place ≡ old place) → Empties made home others emptied more → Puts emptied home (Some (number, value)) put
      → Sets (value_of old others) number (Some value) (value_of put more)
  put_value old made emptied put others more number home value at fit same empties puts =
      let moves : MovesOut (old home) others more = subst (λ s. MovesOut s others more) (same home) empties.moves in
      record {
        here = ap (λ s. or_else (held_in s number) (more number)) (ap put (sym at) ∙ puts.here) ∙ ap (λ x. or_else x (more number)) (held_of (number, value) number refl);
        others = λ q apart. elim (cases_eq (home_of q) home) [
          | inl is ↦
              let new : held_in (put (home_of q)) q ≡ None = ap (λ s. held_in s q) (ap put is ∙ puts.here) ∙ held_not (number, value) q (λ e. apart (sym e)) in
              or_none (held_in (put (home_of q)) q) (more q) (value_of old others q) new (moved_value (old home) others more q moves ∙ ap (λ place. or_else (held_in (old place) q) (others q)) (sym is))
          | inr differ ↦
              or_same (held_in (put (home_of q)) q) (held_in (old (home_of q)) q) (more q) (others q)
              (ap (λ s. held_in s q) (puts.others (home_of q) differ ∙ (empties.puts.others (home_of q) differ ∙ same (home_of q))))
              (moved_other (old home) others more q moves (λ v is. differ (fit.home home q v is)))
        ];
      }

-- a call that stands in its slot is noted, or stands elsewhere
pub noted_or_elsewhere : {T : Type 0} (slots : List (Option (ℕ × OpenCall T))) (number home : ℕ) (was is : Option (ℕ × OpenCall T)) (b : Bool) → home ≡ home_of number → home < length slots → was ≡ get_or slots home was
    → MatchBool b (IsNoted was number is) ((held_in was number ≡ None) × (is ≡ was)) → MatchBool b (Notes (slot_of slots) number (slot_of (set slots home is))) (IsElsewhere (slot_of slots) number (slot_of (set slots home is)))
noted_or_elsewhere {T} slots number home was is true at below read n =
    let puts = slot_put slots home is below in
    let there = slot_read slots home was below read in
    record {
      call = n.call;
      was = ap (slot_of slots) (sym at) ∙ (there ∙ n.was);
      puts = record {
        here = ap (slot_of (set slots home is)) (sym at) ∙ (puts.here ∙ n.is);
        others = λ place apart. puts.others place (λ e. apart (e ∙ at));
      };
    }
noted_or_elsewhere {T} slots number home was is false at below read n =
    let puts = slot_put slots home is below in
    let there = slot_read slots home was below read in
    record {
      none = ap (λ place. held_in (slot_of slots place) number) (sym at) ∙ (ap (λ s. held_in s number) there ∙ n.0);
      same = λ place. elim (cases_eq place home) [
        | inl here ↦ ap (slot_of (set slots home is)) here ∙ (puts.here ∙ (n.1 ∙ (sym there ∙ ap (slot_of slots) (sym here))))
        | inr apart ↦ puts.others place apart
      ];
    }
