-- The arrows that have no end are the copies that the network has.
use Rattle.std.proofs.Common.{ℕ, ◌≡◌, ◌≢◌, ◌+◌, ◌-◌, ◌<◌, ◌≤◌, ◌==◌, ◌&&◌, Bool, true, false, cond, List, [], ◌∷◌, ◌++◌, Option, None, Some}
use Rattle.std.proofs.Common.{refl, sym, ap, ◌∙◌, subst, inl, inr, eqb-true, arith}
use Rattle.std.specs.FinMap as finite
use Rattle.std.specs.Option.{option_map_or}
use Rattle.std.specs.Ordering.{is_eq}
use Rattle.std.specs.Cmp.{nat_cmp_total, tied_itself}
use Rattle.std.proofs.lemmas.Bool.{cases_Bool, cases_eq, eqb-false, ne_eqb}
use Rattle.network.specs.declared.flights.Flight.{Flight}
use Rattle.network.specs.Flights.{Flights, copies_of, one_less, one_more, with_copies}
use Rattle.network.specs.declared.messages.Message.{Message}
use Rattle.network.proofs.Lookups.{get_other, get_same, inserted, none_of, removed, removed_other}
use Rattle.message_scenes.specs.Arrows.{end_flight, is_open, is_under_way}
use Rattle.message_scenes.specs.declared.arrows.Arrow.{Arrow}
use Rattle.message_scenes.specs.declared.arrows.ArrowEnd.{ArrowEnd}
use Rattle.message_scenes.proofs.Underway.{count_kept, count_less, count_more, open_count}

-- flights have numbers that were given, and at least one copy; and as many copies of each are under
-- way by the arrows
pub record Agrees (sent : ℕ) (flights : Flights) (arrows : List Arrow) : Type 0 where
  pub given : (q : ℕ) (x : Flight) → finite.get flights q ≡ Some x → q < sent
  pub least : (q : ℕ) (x : Flight) → finite.get flights q ≡ Some x → 1 ≤ x.copies
  pub counts : (q : ℕ) → open_count q arrows ≡ copies_of flights q

-- the copies of a flight that may be there
abbrev copies_in : Option Flight → ℕ
copies_in found = option_map_or (λ (flight : Flight). flight.copies) found 0

pub same_itself : (n : ℕ) → (n == n) ≡ true
same_itself n = elim (cases_Bool (n == n)) [
  | inl hit ↦ hit
  | inr miss ↦ absurd (eqb-false n n miss refl)
]

-- an arrow under way, by its parts
under : (f : ℕ) (a : Arrow) → a.flight ≡ f → is_open a.end ≡ true → is_under_way f a ≡ true
under f a flight is =
    ap (λ (b : Bool). (a.flight == f) && b) is ∙ ap (λ (n : ℕ). (n == f) && true) flight
    ∙ ap (λ (b : Bool). b && true) (same_itself f)

not_under : (f q : ℕ) (a : Arrow) → a.flight ≡ f → q ≢ f → is_under_way q a ≡ false
not_under f q a flight other = ap (λ (b : Bool). b && is_open a.end) (ne_eqb a.flight q (λ e. other (sym e ∙ flight)))

-- ---- copies after a change
written_same : (flights : Flights) (k : ℕ) (m : Message) (n : ℕ) → copies_of (with_copies flights k m n) k ≡ n
written_same flights k m n = ap copies_in (get_same flights k (record { message = m; copies = n }))

written_other : (flights : Flights) (k : ℕ) (m : Message) (n q : ℕ) → q ≢ k → copies_of (with_copies flights k m n) q ≡ copies_of flights q
written_other flights k m n q other = ap copies_in (get_other flights k (record { message = m; copies = n }) q other)

removed_same : (flights : Flights) (k : ℕ) → copies_of (finite.remove flights k) k ≡ 0
removed_same flights k =
    ap copies_in (finite.get-remove nat_cmp_total flights k k
    ∙ ap (λ o. cond (is_eq o) None (finite.get flights k)) (tied_itself nat_cmp_total k))

-- one less of a flight that is there
less_by : (flights : Flights) (k : ℕ) (x : Flight) (last : Bool) → (x.copies == 1) ≡ last → 1 ≤ x.copies
    → copies_of (cond last (finite.remove flights k) (with_copies flights k x.message (x.copies - 1))) k ≡ x.copies - 1
less_by flights k x true e some =
    let one : x.copies ≡ 1 = eqb-true x.copies 1 e in
    let none = removed_same flights k in
    omega (arith, one, none)
less_by flights k x false e some = written_same flights k x.message (x.copies - 1)

less_other : (flights : Flights) (k : ℕ) (x : Flight) (last : Bool) (q : ℕ) → q ≢ k
    → copies_of (cond last (finite.remove flights k) (with_copies flights k x.message (x.copies - 1))) q ≡ copies_of flights q
less_other flights k x true q other = ap copies_in (removed_other flights k q other)
less_other flights k x false q other = written_other flights k x.message (x.copies - 1) q other

module _ (sent : ℕ) (flights : Flights) (arrows : List Arrow) (agrees : Agrees sent flights arrows) where
  -- a message that is sent
  pub agrees_sent : (m : Message) (a : Arrow) → a.flight ≡ sent → is_open a.end ≡ true
      → Agrees (sent + 1) (with_copies flights sent m 1) (arrows ++ a ∷ [])
  agrees_sent m a flight is =
      let new : Flight = record { message = m; copies = 1 } in
      let none : finite.get flights sent ≡ None =
      none_of (finite.get flights sent) (λ x h. let l : sent < sent = agrees.given sent x h in absurd (omega (arith, l))) in
      record {
        given = λ q x h. elim (inserted flights sent new q x h) [
          | inl here ↦ omega (arith, here.0)
          | inr there ↦ let l = agrees.given q x there in omega (arith, l)
        ];
        least = λ q x h. elim (inserted flights sent new q x h) [
          | inl here ↦ subst (λ (y : Flight). 1 ≤ y.copies) here.1 (omega arith)
          | inr there ↦ agrees.least q x there
        ];
        counts = λ q. elim (cases_eq q sent) [
          | inl same ↦
              let before : open_count q arrows ≡ 0 = agrees.counts q ∙ ap (copies_of flights) same ∙ ap copies_in none in
              let more : open_count q (arrows ++ a ∷ []) ≡ open_count q arrows + 1 =
              count_more q arrows a ∙ ap (λ (b : Bool). open_count q arrows + cond b 1 0) (under q a (flight ∙ sym same) is) in
              let now : copies_of (with_copies flights sent m 1) q ≡ 1 =
              ap (copies_of (with_copies flights sent m 1)) same ∙ written_same flights sent m 1 in
              omega (arith, before, more, now)
          | inr other ↦
              let more : open_count q (arrows ++ a ∷ []) ≡ open_count q arrows + 0 =
              count_more q arrows a ∙ ap (λ (b : Bool). open_count q arrows + cond b 1 0) (not_under sent q a flight other) in
              let before = agrees.counts q in
              let now = written_other flights sent m 1 q other in
              omega (arith, before, more, now)
        ];
      }

  less_given : (f : ℕ) (x : Flight) (last : Bool) → finite.get flights f ≡ Some x → (q : ℕ) (y : Flight)
      → finite.get (cond last (finite.remove flights f) (with_copies flights f x.message (x.copies - 1))) q ≡ Some y → q < sent
  less_given f x true is q y h = agrees.given q y (removed flights f q y h).1
  less_given f x false is q y h = elim (inserted flights f (record { message = x.message; copies = x.copies - 1 }) q y h) [
    | inl here ↦ let l = agrees.given f x is in omega (arith, l, here.0)
    | inr there ↦ agrees.given q y there
  ]

  less_least : (f : ℕ) (x : Flight) (last : Bool) → (x.copies == 1) ≡ last → 1 ≤ x.copies → (q : ℕ) (y : Flight)
      → finite.get (cond last (finite.remove flights f) (with_copies flights f x.message (x.copies - 1))) q ≡ Some y → 1 ≤ y.copies
  less_least f x true e some q y h = agrees.least q y (removed flights f q y h).1
  less_least f x false e some q y h = elim (inserted flights f (record { message = x.message; copies = x.copies - 1 }) q y h) [
    | inl here ↦
        let more : x.copies ≡ 1 → ⊥ = eqb-false x.copies 1 e in
        subst (λ (z : Flight). 1 ≤ z.copies) here.1 (omega (arith, some, more))
    | inr there ↦ agrees.least q y there
  ]

  -- a copy that comes or is lost
  pub agrees_ended : (f : ℕ) (there : ArrowEnd) (x : Flight) → is_open there ≡ false → finite.get flights f ≡ Some x
      → Agrees sent (one_less flights f (finite.get flights f)) (end_flight f there arrows)
  agrees_ended f there x closed is =
      let last : Bool = x.copies == 1 in
      let less : Flights = cond last (finite.remove flights f) (with_copies flights f x.message (x.copies - 1)) in
      let some : 1 ≤ x.copies = agrees.least f x is in
      let stays : Agrees sent less (end_flight f there arrows) = record {
        given = λ q y h. less_given f x last is q y h;
        least = λ q y h. less_least f x last refl some q y h;
        counts = λ q. elim (cases_eq q f) [
          | inl same ↦
              let before : open_count f arrows ≡ x.copies = agrees.counts f ∙ ap copies_in is in
              let gone = count_less f there closed arrows in
              let now = less_by flights f x last refl some in
              let here : open_count f (end_flight f there arrows) ≡ copies_of less f = omega (arith, before, gone, now) in
              subst (λ (k : ℕ). open_count k (end_flight f there arrows) ≡ copies_of less k) (sym same) here
          | inr other ↦ count_kept f there q other arrows ∙ agrees.counts q ∙ sym (less_other flights f x last q other)
        ];
      } in
      subst (λ (found : Option Flight). Agrees sent (one_less flights f found) (end_flight f there arrows)) (sym is) stays

  -- a copy more
  pub agrees_copied : (f : ℕ) (x : Flight) (a : Arrow) → finite.get flights f ≡ Some x → a.flight ≡ f → is_open a.end ≡ true
      → Agrees sent (one_more flights f (finite.get flights f)) (arrows ++ a ∷ [])
  agrees_copied f x a is flight open_ =
      let more : Flights = with_copies flights f x.message (x.copies + 1) in
      let new : Flight = record { message = x.message; copies = x.copies + 1 } in
      let stays : Agrees sent more (arrows ++ a ∷ []) = record {
        given = λ q y h. elim (inserted flights f new q y h) [
          | inl here ↦ let l = agrees.given f x is in omega (arith, l, here.0)
          | inr there ↦ agrees.given q y there
        ];
        least = λ q y h. elim (inserted flights f new q y h) [
          | inl here ↦ subst (λ (z : Flight). 1 ≤ z.copies) here.1 (omega arith)
          | inr there ↦ agrees.least q y there
        ];
        counts = λ q. elim (cases_eq q f) [
          | inl same ↦
              let before : open_count f arrows ≡ x.copies = agrees.counts f ∙ ap copies_in is in
              let added : open_count f (arrows ++ a ∷ []) ≡ open_count f arrows + 1 =
              count_more f arrows a ∙ ap (λ (b : Bool). open_count f arrows + cond b 1 0) (under f a flight open_) in
              let now = written_same flights f x.message (x.copies + 1) in
              let here : open_count f (arrows ++ a ∷ []) ≡ copies_of more f = omega (arith, before, added, now) in
              subst (λ (k : ℕ). open_count k (arrows ++ a ∷ []) ≡ copies_of more k) (sym same) here
          | inr other ↦
              let added : open_count q (arrows ++ a ∷ []) ≡ open_count q arrows + 0 =
              count_more q arrows a ∙ ap (λ (b : Bool). open_count q arrows + cond b 1 0) (not_under f q a flight other) in
              let before = agrees.counts q in
              let now = written_other flights f x.message (x.copies + 1) q other in
              omega (arith, before, added, now)
        ];
      } in
      subst (λ (found : Option Flight). Agrees sent (one_more flights f found) (arrows ++ a ∷ [])) (sym is) stays

  -- a flight that is there is under way
  pub some_under : (f : ℕ) (x : Flight) → finite.get flights f ≡ Some x → 1 ≤ open_count f arrows
  some_under f x is =
      let before : open_count f arrows ≡ x.copies = agrees.counts f ∙ ap copies_in is in
      let some = agrees.least f x is in
      omega (arith, before, some)
