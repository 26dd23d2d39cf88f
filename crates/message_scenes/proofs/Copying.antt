-- What is tried in a row goes on with the copies that the arrows show.
use Rattle.std.proofs.Common.{ℕ, ◌≡◌, ◌+◌, ◌<◌, ◌==◌, Bool, true, false, cond, List, [], ◌∷◌, ◌++◌, map, length, Some}
use Rattle.std.proofs.Common.{sym, ap, ◌∙◌, subst, append_assoc, append-nil, length-append, arith}
use Rattle.std.specs.FinMap as finite
use Rattle.std.specs.List.Sorted.{IsPermutation}
use Rattle.std.proofs.lemmas.Bool.{ne_eqb}
use Rattle.std.proofs.lemmas.List.{map-append}
use Rattle.std.proofs.lemmas.List.Sorted.{IsPermutation-append_left, IsPermutation-refl, IsPermutation-trans}
use Rattle.network.specs.declared.flights.Flight.{Flight}
use Rattle.network.specs.Flights.{Flights, one_less, with_copies}
use Rattle.network.specs.Pools.{Pool, with_one_less, with_one_more, with_sent}
use Rattle.network.specs.declared.messages.Message.{Message}
use Rattle.network.proofs.Lookups.{get_other}
use Rattle.world_steps.specs.Systems.{effect_of}
use Rattle.world_steps.specs.declared.step.Step.{Step}
use Rattle.world_steps.specs.declared.step.Step.TheVariants as step
use Rattle.message_scenes.specs.Arrows.{end_flight, is_open}
use Rattle.message_scenes.specs.Copies.{EndLater, IsAfter, ShowCopies, begin_of, begun_by, begun_copies, begun_in, ended_by, ended_copies, ended_in, ends_of}
use Rattle.message_scenes.specs.Tried.{TakenStep, Tried, took}
use Rattle.message_scenes.specs.declared.arrows.Arrow.{Arrow}
use Rattle.message_scenes.specs.declared.arrows.ArrowEnd.{ArrowEnd}
use Rattle.message_scenes.proofs.Agreeing.{Agrees, agrees_copied, agrees_ended, agrees_sent, same_itself, some_under}
use Rattle.message_scenes.proofs.Underway.{BeginBefore, before_kept, before_more, before_next, begins_kept, ended_first, ends_more, ends_same, later_kept, later_more}

-- the arrows so far, of what was tried and left that network
pub record Shown (earlier : List Tried) (row : ℕ) (pool : Pool) (arrows : List Arrow) : Type 0 where
  pub copies : ShowCopies earlier arrows
  pub counted : row ≡ length earlier
  pub early : BeginBefore row arrows
  pub agrees : Agrees pool.sent pool.flights arrows

-- the copies of one more
begun_more : (n : ℕ) (earlier : List Tried) (t : Tried) → begun_copies n (earlier ++ t ∷ [])
    ≡ begun_copies n earlier ++ begun_in (n + length earlier) t
begun_more n [] t =
    let same : n ≡ n + 0 = omega arith in
    append-nil (begun_in n t) ∙ ap (λ (k : ℕ). begun_in k t) same
begun_more n (x ∷ earlier) t =
    let first = begun_in n x in
    let same : (n + 1) + length earlier ≡ n + length (x ∷ earlier) = omega arith in
    ap (λ (l : List (ℕ × ℕ)). first ++ l) (begun_more (n + 1) earlier t)
    ∙ sym (append_assoc first (begun_copies (n + 1) earlier) (begun_in ((n + 1) + length earlier) t))
    ∙ ap (λ (k : ℕ). (first ++ begun_copies (n + 1) earlier) ++ begun_in k t) same

ended_more : (n : ℕ) (earlier : List Tried) (t : Tried) → ended_copies n (earlier ++ t ∷ [])
    ≡ ended_copies n earlier ++ ended_in (n + length earlier) t
ended_more n [] t =
    let same : n ≡ n + 0 = omega arith in
    append-nil (ended_in n t) ∙ ap (λ (k : ℕ). ended_in k t) same
ended_more n (x ∷ earlier) t =
    let first = ended_in n x in
    let same : (n + 1) + length earlier ≡ n + length (x ∷ earlier) = omega arith in
    ap (λ (l : List (ℕ × ArrowEnd)). first ++ l) (ended_more (n + 1) earlier t)
    ∙ sym (append_assoc first (ended_copies (n + 1) earlier) (ended_in ((n + 1) + length earlier) t))
    ∙ ap (λ (k : ℕ). (first ++ ended_copies (n + 1) earlier) ++ ended_in k t) same

-- arrows before a row and after it, where what is tried begins and ends those copies
copies_on : (earlier : List Tried) (row : ℕ) (t : Tried) (arrows new : List Arrow) (b : List (ℕ × ℕ)) (e : List (ℕ × ArrowEnd))
    → row ≡ length earlier → ShowCopies earlier arrows → begun_in row t ≡ b
    → ended_in row t ≡ e → map begin_of new ≡ map begin_of arrows ++ b → IsPermutation (ends_of new) (ends_of arrows ++ e)
    → EndLater new → ShowCopies (earlier ++ t ∷ []) new
copies_on earlier row t arrows new b e counted old begun ended begins ends later =
    let same : 0 + length earlier ≡ row = omega (arith, counted) in
    record {
      begins = begins ∙ ap (λ (l : List (ℕ × ℕ)). l ++ b) old.begins
          ∙ sym (begun_more 0 earlier t
          ∙ ap (λ (k : ℕ). begun_copies 0 earlier ++ begun_in k t) same
          ∙ ap (λ (l : List (ℕ × ℕ)). begun_copies 0 earlier ++ l) begun);
      ends = subst (IsPermutation (ends_of new))
          (sym (ended_more 0 earlier t ∙ ap (λ (k : ℕ). ended_copies 0 earlier ++ ended_in k t) same
          ∙ ap (λ (l : List (ℕ × ArrowEnd)). ended_copies 0 earlier ++ l) ended))
          (IsPermutation-trans (ends_of new) (ends_of arrows ++ e) (ended_copies 0 earlier ++ e) ends
          (IsPermutation-append_left e (ends_of arrows) (ended_copies 0 earlier) old.ends));
      later = later;
    }

next_count : (row : ℕ) (earlier : List Tried) (t : Tried) → row ≡ length earlier → row + 1 ≡ length (earlier ++ t ∷ [])
next_count row earlier t is =
    let long = length-append earlier (t ∷ []) in
    omega (arith, is, long)

-- what leaves the network as it was
pub still_on : (earlier : List Tried) (row : ℕ) (t : Tried) (pool : Pool) (arrows : List Arrow) → Shown earlier row pool arrows
    → begun_in row t ≡ [] → ended_in row t ≡ [] → Shown (earlier ++ t ∷ []) (row + 1) pool arrows
still_on earlier row t pool arrows so_far begun ends = record {
  copies = copies_on earlier row t arrows arrows [] [] so_far.counted so_far.copies begun ends (sym (append-nil (map begin_of arrows)))
      (subst (IsPermutation (ends_of arrows)) (sym (append-nil (ends_of arrows))) (IsPermutation-refl (ends_of arrows)))
      so_far.copies.later;
  counted = next_count row earlier t so_far.counted;
  early = before_next row arrows so_far.early;
  agrees = so_far.agrees;
}

-- where no more messages were sent, and the step isn't a repeat
abbrev pub BeginsNone : ℕ → Step → Type 0
BeginsNone row s = (n : ℕ) → begun_by row s n n ≡ []

-- where a step sends a message
abbrev pub BeginsNext : ℕ → Step → Type 0
BeginsNext row s = (n : ℕ) → begun_by row s n (n + 1) ≡ (row, n) ∷ []

pub none_if_same : (n : ℕ) (l : List (ℕ × ℕ)) → cond (n == n) [] l ≡ []
none_if_same n l = ap (λ (b : Bool). cond b [] l) (same_itself n)

pub next_if_more : (n : ℕ) (l : List (ℕ × ℕ)) → cond (n == n + 1) [] l ≡ l
next_if_more n l = ap (λ (b : Bool). cond b [] l) (ne_eqb n (n + 1) (λ e. absurd (omega (arith, e))))

module _ (earlier : List Tried) (row : ℕ) (t : TakenStep) (arrows : List Arrow) (so_far : Shown earlier row t.before.pool arrows) where
  -- a step that neither sends nor ends a message
  pub quiet_on : t.after.pool ≡ t.before.pool → BeginsNone row t.step → ended_in row (took t) ≡ []
      → Shown (earlier ++ took t ∷ []) (row + 1) t.after.pool arrows
  quiet_on same begins ends =
      let begun : begun_by row t.step t.before.pool.sent t.after.pool.sent ≡ [] =
      ap (λ (p : Pool). begun_by row t.step t.before.pool.sent p.sent) same ∙ begins t.before.pool.sent in
      subst (λ (p : Pool). Shown (earlier ++ took t ∷ []) (row + 1) p arrows) (sym same)
      (still_on earlier row (took t) t.before.pool arrows so_far begun ends)

  -- a step that begins a copy, with its arrow
  begun_on : (a : Arrow) → a.begins ≡ row → is_open a.end ≡ true
      → begun_by row t.step t.before.pool.sent t.after.pool.sent ≡ (row, a.flight) ∷ [] → ended_in row (took t) ≡ []
      → Agrees t.after.pool.sent t.after.pool.flights (arrows ++ a ∷ []) → Shown (earlier ++ took t ∷ []) (row + 1) t.after.pool (arrows ++ a ∷ [])
  begun_on a begins opens begun ends agrees =
      let one : map begin_of (arrows ++ a ∷ []) ≡ map begin_of arrows ++ (row, a.flight) ∷ [] =
      map-append begin_of arrows (a ∷ []) ∙ ap (λ (n : ℕ). map begin_of arrows ++ (n, a.flight) ∷ []) begins in
      let none : ends_of (arrows ++ a ∷ []) ≡ ends_of arrows ++ [] = ends_same arrows a opens ∙ sym (append-nil (ends_of arrows)) in
      record {
        copies = copies_on earlier row (took t) arrows (arrows ++ a ∷ []) ((row, a.flight) ∷ []) [] so_far.counted so_far.copies begun ends one
            (subst (IsPermutation (ends_of (arrows ++ a ∷ []))) none (IsPermutation-refl (ends_of (arrows ++ a ∷ []))))
            (later_more arrows a so_far.copies.later opens);
        counted = next_count row earlier (took t) so_far.counted;
        early = before_more row arrows a so_far.early begins;
        agrees = agrees;
      }

  -- a step that sends a message
  pub sent_on : (m : Message) (a : Arrow) → a.begins ≡ row → a.flight ≡ t.before.pool.sent → is_open a.end ≡ true
      → t.after.pool ≡ with_sent t.before.pool m → BeginsNext row t.step → ended_in row (took t) ≡ []
      → Shown (earlier ++ took t ∷ []) (row + 1) t.after.pool (arrows ++ a ∷ [])
  sent_on m a begins flight opens sends next ends =
      begun_on a begins opens
      (ap (λ (p : Pool). begun_by row t.step t.before.pool.sent p.sent) sends ∙ next t.before.pool.sent
      ∙ ap (λ (n : ℕ). (row, n) ∷ []) (sym flight)) ends
      (subst (λ (p : Pool). Agrees p.sent p.flights (arrows ++ a ∷ [])) (sym sends)
      (agrees_sent t.before.pool.sent t.before.pool.flights arrows so_far.agrees m a flight opens))

  -- a step that repeats a message
  pub copied_on : (f : ℕ) (x : Flight) (a : Arrow) → a.begins ≡ row → a.flight ≡ f → is_open a.end ≡ true
      → finite.get t.before.pool.flights f ≡ Some x → t.after.pool ≡ with_one_more t.before.pool f → t.step ≡ step.Repeat f
      → Shown (earlier ++ took t ∷ []) (row + 1) t.after.pool (arrows ++ a ∷ [])
  copied_on f x a begins flight opens there repeats is =
      begun_on a begins opens
      (ap (λ (s : Step). begun_by row s t.before.pool.sent t.after.pool.sent) is ∙ ap (λ (n : ℕ). (row, n) ∷ []) (sym flight))
      (ap (λ (s : Step). ended_by row s (effect_of t.before t.step)) is)
      (subst (λ (p : Pool). Agrees p.sent p.flights (arrows ++ a ∷ [])) (sym repeats)
      (agrees_copied t.before.pool.sent t.before.pool.flights arrows so_far.agrees f x a there flight opens))

  module _ (f : ℕ) (there : ArrowEnd) (x : Flight) (closed : is_open there ≡ false) (after : (n : ℕ) → n < row → IsAfter n there)
      (is : finite.get t.before.pool.flights f ≡ Some x) (ends : ended_in row (took t) ≡ (f, there) ∷ []) where
    -- a step that ends a copy
    pub ended_on : t.after.pool ≡ with_one_less t.before.pool f → BeginsNone row t.step
        → Shown (earlier ++ took t ∷ []) (row + 1) t.after.pool (end_flight f there arrows)
    ended_on lost begins =
        let some = some_under t.before.pool.sent t.before.pool.flights arrows so_far.agrees f x is in
        let begun : begun_by row t.step t.before.pool.sent t.after.pool.sent ≡ [] =
        ap (λ (p : Pool). begun_by row t.step t.before.pool.sent p.sent) lost ∙ begins t.before.pool.sent in
        record {
          copies = copies_on earlier row (took t) arrows (end_flight f there arrows) [] ((f, there) ∷ []) so_far.counted so_far.copies begun ends
              (begins_kept f there arrows ∙ sym (append-nil (map begin_of arrows))) (ends_more f there closed arrows some)
              (later_kept f there row arrows after so_far.early so_far.copies.later);
          counted = next_count row earlier (took t) so_far.counted;
          early = before_next row (end_flight f there arrows) (before_kept f there row arrows so_far.early);
          agrees = subst (λ (p : Pool). Agrees p.sent p.flights (end_flight f there arrows)) (sym lost)
              (agrees_ended t.before.pool.sent t.before.pool.flights arrows so_far.agrees f there x closed is);
        }

    -- a step that ends a copy, and sends a message
    pub answered_on : (m : Message) (a : Arrow) → a.begins ≡ row → a.flight ≡ t.before.pool.sent → is_open a.end ≡ true
        → t.after.pool ≡ with_one_less (with_sent t.before.pool m) f → BeginsNext row t.step
        → Shown (earlier ++ took t ∷ []) (row + 1) t.after.pool (end_flight f there arrows ++ a ∷ [])
    answered_on m a begins flight opens sends next =
        let sent = t.before.pool.sent in
        let flights : Flights = t.before.pool.flights in
        let more : Flights = with_copies flights sent m 1 in
        let some = some_under sent flights arrows so_far.agrees f x is in
        let given = so_far.agrees.given f x is in
        let still : finite.get more f ≡ Some x =
        get_other flights sent (record { message = m; copies = 1 }) f (λ e. absurd (omega (arith, given, e))) ∙ is in
        let both : Agrees (sent + 1) more (arrows ++ a ∷ []) = agrees_sent sent flights arrows so_far.agrees m a flight opens in
        let all : Agrees (sent + 1) (one_less more f (finite.get more f)) (end_flight f there (arrows ++ a ∷ [])) =
        agrees_ended (sent + 1) more (arrows ++ a ∷ []) both f there x closed still in
        let moved : end_flight f there (arrows ++ a ∷ []) ≡ end_flight f there arrows ++ a ∷ [] = ended_first f there arrows (a ∷ []) some in
        let begun : begun_by row t.step sent t.after.pool.sent ≡ (row, sent) ∷ [] =
        ap (λ (p : Pool). begun_by row t.step sent p.sent) sends ∙ next sent in
        let one : map begin_of (end_flight f there arrows ++ a ∷ []) ≡ map begin_of arrows ++ (row, sent) ∷ [] =
        map-append begin_of (end_flight f there arrows) (a ∷ []) ∙ ap (λ (l : List (ℕ × ℕ)). l ++ begin_of a ∷ []) (begins_kept f there arrows)
        ∙ ap (λ (n : ℕ). map begin_of arrows ++ (n, a.flight) ∷ []) begins ∙ ap (λ (n : ℕ). map begin_of arrows ++ (row, n) ∷ []) flight in
        record {
          copies = copies_on earlier row (took t) arrows (end_flight f there arrows ++ a ∷ []) ((row, sent) ∷ []) ((f, there) ∷ []) so_far.counted
              so_far.copies begun ends one
              (subst (λ (l : List (ℕ × ArrowEnd)). IsPermutation l (ends_of arrows ++ (f, there) ∷ []))
              (sym (ends_same (end_flight f there arrows) a opens)) (ends_more f there closed arrows some))
              (later_more (end_flight f there arrows) a (later_kept f there row arrows after so_far.early so_far.copies.later) opens);
          counted = next_count row earlier (took t) so_far.counted;
          early = before_more row (end_flight f there arrows) a (before_kept f there row arrows so_far.early) begins;
          agrees = subst (λ (p : Pool). Agrees p.sent p.flights (end_flight f there arrows ++ a ∷ [])) (sym sends)
              (subst (Agrees (sent + 1) (one_less more f (finite.get more f))) moved all);
        }
