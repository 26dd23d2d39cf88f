-- The seats of a load's callers.
use Rattle.std.proofs.Common.{◌≡◌, ◌<◌, ◌+◌, ℕ, suc, List, [], ◌∷◌, ◌++◌, Some, length, length-append, map, get_or, refl, sym, ap, subst}
use Rattle.std.proofs.Common.{◌∙◌, arith}
use Rattle.std.specs.List.{slice_get}
use Rattle.std.specs.Option.{option_map}
use Rattle.std.proofs.lemmas.List.{length-map}
use Rattle.std.proofs.lemmas.Option.{get_or_from_slice_get, same_Some, slice_get-get_or, slice_get-map, slice_get_within}
use Rattle.tag.proofs.Options.{none_some}
use Rattle.tag.proofs.Lists.{each_push}
use Rattle.seats.specs.Seats.{Seat}
use Rattle.node_threads.specs.Joins.{IsNewSeat}
use Rattle.node_threads.specs.declared.config.StoreConfig.{StoreConfig}
use Rattle.load.specs.declared.load.LoadOptions.{LoadOptions}
use Rattle.load_run.specs.Callers.{AreCalled, AreNew, AreOfSeats, AreSeated, IsCalled, work_of}
use Rattle.load_run.specs.declared.callers.Called.{Called}
use Rattle.load_run.specs.declared.callers.Work.{Work}

pub seated_none : (config : StoreConfig) (seats : List Seat) → seats ≡ [] → AreSeated config 0 seats
seated_none config seats none = record {
  count = ap length none;
  each = λ k s at. none_some
      (subst (λ (l : List Seat). slice_get l k ≡ Some s) none at);
}

-- one more
pub seated_more : (config : StoreConfig) (count : ℕ) (seats now : List Seat) (s : Seat) → AreSeated config count seats
    → IsNewSeat config (count + 1) s → now ≡ seats ++ s ∷ [] → AreSeated config (count + 1) now
seated_more config count seats now s so_far new is = record {
  count = let len : length now ≡ length seats + 1 = ap length is ∙ length-append seats (s ∷ []) in let before = so_far.count in omega
      (arith, len, before);
  each = each_push (λ k one. IsNewSeat config (k + 1) one) seats now s so_far.each is
      (subst (λ n. IsNewSeat config (n + 1) s) (sym so_far.count) new);
}

-- those that are left are new too
pub new_left : (config : StoreConfig) (rest left : List Seat) (s : Seat) → AreNew config rest → rest ≡ s ∷ left → AreNew config left
new_left config rest left s new step k one at = new (suc k) one
    (subst (λ (l : List Seat). slice_get l (suc k) ≡ Some one) (sym step) at)

pub new_first : (config : StoreConfig) (rest left : List Seat) (s : Seat) → AreNew config rest → rest ≡ s ∷ left → IsNewSeat config s.client s
new_first config rest left s new step = new 0 s (subst (λ (l : List Seat). slice_get l 0 ≡ Some s) (sym step) refl)

pub seated_new : (config : StoreConfig) (count : ℕ) (seats : List Seat) → AreSeated config count seats → AreNew config seats
seated_new config count seats seated k s at =
    let new = seated.each k s at in
    subst (λ n. IsNewSeat config n s) (sym new.client) new

-- the callers of the seats are the load's
pub called : (config : StoreConfig) (load : LoadOptions) (seats : List Seat) (callers : List Called) → AreSeated config load.callers seats
    → AreOfSeats load seats callers → AreCalled load callers
called config load seats callers seated of = record {
  count = of.count ∙ seated.count;
  each = λ k one at.
      let below : k < length callers = slice_get_within callers k one at in
      let len = of.count in
      let d = one.seat in
      let there : slice_get seats k ≡ Some (get_or seats k d) = slice_get-get_or seats k d (omega (arith, below, len)) in
      let s = get_or seats k d in
      subst (λ n. IsCalled (work_of load n) one) (seated.each k s there).client (of.each k one s at there);
}

-- each of the threads that were started for the seats kept its promise
pub kept : {H : Type 0} (f : H → Work) (load : LoadOptions) (handles : List H) (seats : List Seat) (callers : List Called)
    → map f handles ≡ map (λ s. work_of load s.client) seats → length callers ≡ length handles
    → ((i : ℕ) (d : Called) → i < length handles → (h : H) × (h ≡ get_or handles i h) × IsCalled (f h) (get_or callers i d))
    → AreOfSeats load seats callers
kept {H} f load handles seats callers started len each =
    let work : Seat → Work = λ s. work_of load s.client in
    let as_many : length handles ≡ length seats = sym (length-map handles f) ∙ ap length started ∙ length-map seats work in
    record {
      count = len ∙ as_many;
      each = λ k one s at there.
          let below : k < length callers = slice_get_within callers k one at in
          let within : k < length handles = omega (arith, below, len) in
          let found = each k one within in
          let handle = found.0 in
          let at_handle : slice_get handles k ≡ Some handle = slice_get-get_or handles k handle within ∙ ap Some (sym found.1) in
          let promised : slice_get (map f handles) k ≡ Some (f handle) = slice_get-map f handles k ∙ ap (option_map f) at_handle in
          let wanted : slice_get (map work seats) k ≡ Some (work s) = slice_get-map work seats k ∙ ap (option_map work) there in
          let same : f handle ≡ work s = same_Some (f handle) (work s) (sym promised ∙ ap (λ (l : List Work). slice_get l k) started
          ∙ wanted) in
          subst (λ (w : Work). IsCalled w one) same (subst (IsCalled (f handle)) (get_or_from_slice_get callers k one one at) found.2);
    }
