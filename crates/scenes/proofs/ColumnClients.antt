-- The clients of a column, and the columns of all lanes.
use Rattle.std.proofs.Common.{ℕ, ◌≡◌, ◌≢◌, ◌<◌, ◌≤◌, ◌+◌, ◌↔◌, inl, inr, List, [], ◌∷◌, ◌++◌, Some, Result, Ok, Err, length, sym, ap, ◌∙◌, subst, arith}
use Rattle.std.specs.List.{slice_get, Contains}
use Rattle.std.specs.List.Sorted.{IsStrictlyIncreasing}
use Rattle.std.proofs.lemmas.Bool.{cases_lt}
use Rattle.std.proofs.lemmas.List.{length-append, map-id}
use Rattle.std.specs.Result.{IfOk}
use Rattle.std.proofs.lemmas.Option.{same_Some, slice_get_within}
use Rattle.tag.proofs.Lists.{get_at, each_push}
use Rattle.scenes.specs.declared.columns.Column.{Column}
use Rattle.scenes.specs.declared.columns.LaneColumns.{LaneColumns}
use Rattle.scenes.specs.declared.columns.TheConstants.{OWN_COLUMNS}
use Rattle.scenes.specs.declared.scene.Bar.{Bar}
use Rattle.scenes.specs.Columns.{AreColumnsOf, IsColumnOf, StandsIn}
use Rattle.scenes.specs.FirstFit.{AreCountedColumns}
use Rattle.scenes.proofs.Just.{HasJust, just_more, just_same}
use Rattle.scenes.proofs.Rising.{Rises, rises_in, rises_more, rises_mapped}

-- each of so few lanes has a column of its own
pub own_ones : (bars : List Bar) (lanes : ℕ) (columns : List ℕ) (count : ℕ) → length columns ≡ lanes → count ≡ lanes
    → ((lane : ℕ) → lane < lanes → slice_get columns lane ≡ Some lane) → lanes ≤ OWN_COLUMNS → AreCountedColumns bars lanes columns count
own_ones bars lanes columns count long counted own few = record {
  columns_are = record {
    each = long;
    few = λ h. own;
    many = λ many. absurd (omega (arith, few, many));
  };
  each = λ number less. (number, own number (omega (arith, less, counted)));
  within = λ lane number at.
      let inside : lane < lanes = omega (arith, slice_get_within columns lane number at, long) in
      let same : lane ≡ number = same_Some lane number (sym (own lane inside) ∙ at) in
      omega (arith, inside, same, counted);
}

pub own_each : {X : Type 0} (bars : List Bar) (lanes : ℕ) (result : Result LaneColumns X) → IfOk result (λ all. length all.of_lanes.items ≡ lanes)
    → IfOk result (λ all. (lane : ℕ) → lane < lanes → slice_get all.of_lanes.items lane ≡ Some lane) → IfOk result (λ all. all.count ≡ lanes)
    → lanes ≤ OWN_COLUMNS → IfOk result (λ all. AreCountedColumns bars lanes all.of_lanes.items all.count)
own_each bars lanes (Ok all) long own count few = own_ones bars lanes all.of_lanes.items all.count long count own few
own_each bars lanes (Err e) long own count few = tt

module _ (lanes columns : List ℕ) (number : ℕ) where
  -- the client's lane is among the first, and stands in the column
  abbrev StandsBefore : ℕ → ℕ → Type 0
  StandsBefore k client = (lane : ℕ) × (lane < k) × (slice_get lanes lane ≡ Some client) × (slice_get columns lane ≡ Some number)

  pub record ClientsSoFar (k : ℕ) (clients : List ℕ) : Type 0 where
    pub rising : Rises (λ (n : ℕ). n) clients
    pub exactly : HasJust (StandsBefore k) clients

  pub no_clients : ClientsSoFar 0 []
  no_clients = record {
    rising = λ i j a b less at_a at_b. absurd (omega (arith, slice_get_within [] i a at_a));
    exactly = λ client. (λ there. absurd (let h = there.1 in omega arith), λ has. absurd (omega (arith, has.1)));
  }

  last_stands : (k client : ℕ) → slice_get lanes k ≡ Some client → slice_get columns k ≡ Some number → StandsBefore (k + 1) client
  last_stands k client at here = (k, omega arith, at, here)

  -- the lane stands in the column
  pub client_more : IsStrictlyIncreasing lanes → (k client : ℕ) (clients now : List ℕ) → slice_get lanes k ≡ Some client → slice_get columns k ≡ Some number
      → now ≡ clients ++ client ∷ [] → ClientsSoFar k clients → ClientsSoFar (k + 1) now
  client_more up k client clients now at here more before = record {
    rising = rises_more (λ (n : ℕ). n) clients now client more
        (λ other there. let w = (before.exactly other).0 there in rises_in lanes up w.0 k other client w.1 w.2 at) before.rising;
    exactly = just_more (StandsBefore k) (StandsBefore (k + 1)) clients now client more
        (λ other has. (has.0, omega (arith, has.1), has.2, has.3))
        (last_stands k client at here)
        (λ other has. elim (cases_lt has.0 k) [
          | inl h ↦ inl (has.0, h, has.2, has.3)
          | inr h ↦
              let same : k ≡ has.0 = omega (arith, h, has.1) in
              inr (same_Some client other (sym at ∙ subst (λ (n : ℕ). slice_get lanes n ≡ Some other) (sym same) has.2))
        ]) before.exactly;
  }

  -- it doesn't
  pub client_other : (k column : ℕ) (clients : List ℕ) → slice_get columns k ≡ Some column → column ≢ number → ClientsSoFar k clients → ClientsSoFar (k + 1) clients
  client_other k column clients at other before = record {
    rising = before.rising;
    exactly = just_same (StandsBefore k) (StandsBefore (k + 1)) clients
        (λ client has. (has.0, omega (arith, has.1), has.2, has.3))
        (λ client has. elim (cases_lt has.0 k) [
          | inl h ↦ (has.0, h, has.2, has.3)
          | inr h ↦
              let same : k ≡ has.0 = omega (arith, h, has.1) in
              absurd (other (same_Some column number (sym at ∙ subst (λ (n : ℕ). slice_get columns n ≡ Some number) (sym same) has.3)))
        ]) before.exactly;
  }

  pub all_clients : (k : ℕ) (clients : List ℕ) → length lanes ≤ k → ClientsSoFar k clients → HasJust (StandsIn lanes columns number) clients
  all_clients k clients past before = just_same (StandsBefore k) (StandsIn lanes columns number) clients
      (λ client has. (has.0, has.2, has.3))
      (λ client has. (has.0, omega (arith, past, slice_get_within lanes has.0 client has.1), has.1, has.2)) before.exactly

  pub rising_clients : (k : ℕ) (clients : List ℕ) → ClientsSoFar k clients → IsStrictlyIncreasing clients
  rising_clients k clients before = subst IsStrictlyIncreasing (map-id clients) (rises_mapped (λ (n : ℕ). n) clients before.rising)

-- so many columns have their clients
abbrev pub ColumnsSoFar : List ℕ → List ℕ → ℕ → List Column → Type 0
ColumnsSoFar lanes columns count all =
    (length all ≡ count) × ((number : ℕ) (column : Column) → slice_get all number ≡ Some column → IsColumnOf lanes columns number column)

-- one column more
pub column_more : (lanes columns : List ℕ) (k : ℕ) (all now : List Column) (column : Column) → now ≡ all ++ column ∷ [] → IsStrictlyIncreasing column.clients.items
    → ((client : ℕ) → Contains column.clients.items client ↔ StandsIn lanes columns k client) → ColumnsSoFar lanes columns k all
    → ColumnsSoFar lanes columns (k + 1) now
column_more lanes columns k all now column more up has before = (
  ap length more ∙ (length-append all (column ∷ []) ∙ ap (λ (n : ℕ). n + 1) before.0),
  each_push (IsColumnOf lanes columns) all now column before.1 more
      (subst (λ (n : ℕ). IsColumnOf lanes columns n column) (sym before.0) (record { rising = up; exactly = has })),
)

pub all_columns : (lanes columns : List ℕ) (count k : ℕ) (all : List Column) → length columns ≡ length lanes
    → ((number : ℕ) → number < count → (lane : ℕ) × (slice_get columns lane ≡ Some number))
    → ((lane number : ℕ) → slice_get columns lane ≡ Some number → number < count) → k ≡ count → ColumnsSoFar lanes columns k all → AreColumnsOf lanes columns all
all_columns lanes columns count k all long each within same done = record {
  each = done.1;
  none_empty = λ number less.
      let w = each number (omega (arith, less, done.0, same)) in
      let inside : w.0 < length lanes = omega (arith, slice_get_within columns w.0 number w.1, long) in
      let client = get_at lanes w.0 inside in
      (client.0, (w.0, client.1, w.1));
  all_there = λ lane number at. omega (arith, within lane number at, done.0, same);
}
