-- What a table of rows keeps while it grows.
use Rattle.std.proofs.Common.{ℕ, suc, ◌≡◌, ◌≤◌, ◌<◌, ◌+◌, ◌-◌, List, [], ◌∷◌, ◌++◌, Some, take, drop, map, get_or, sym, ap, ap₂, subst, refl, ◌∙◌, arith, length, length-append}
use Rattle.std.specs.Prelude.{Result, Ok, Err, OnErr}
use Rattle.std.specs.List.{slice_get, Contains}
use Rattle.std.specs.Str.{IsUtf8}
use Rattle.std.proofs.lemmas.List.{drop-append-le, take-append-le, length-drop, map-append, append-nil, get_or_append_left, length-map}
use Rattle.std.proofs.Math.Seq.{drop-append_seam, take-append_seam}
use Rattle.std.proofs.lemmas.Option.{slice_get_within, get_or_from_slice_get}
use Rattle.tag.specs.Limits.{value_limit}
use Rattle.tag.proofs.Lists.{each_push, Contains-slice_get, slice_get-push_last, item_at, slice_get-map_at}
use Rattle.key_index.specs.Numbers.{Numbers}
use Rattle.key_index.specs.Numbers.Numbers.{known, first}
use Rattle.recorder.specs.declared.row.Row.{Row}
use Rattle.recorder.specs.declared.row_table.KeptRow.{KeptRow}
use Rattle.recorder.specs.declared.row_table.KeptRow.TheVariants as kept
use Rattle.recorder.specs.declared.row_table.Span.{Span}
use Rattle.recorder.specs.declared.row_table.RowTable.TheInside.{Inside}
use Rattle.recorder.specs.declared.row.Row.TheVariants.{Invoke}
use Rattle.tag.specs.declared.actions.Action.{Action}
use Rattle.tag.specs.declared.numbers.OpId.{OpId}
use Rattle.recorder.specs.Records.{AreFirstSeen}
use Rattle.recorder.specs.Tables.{row_limit, Table, Extends}
use Rattle.recorder.specs.Texts.{text_at, IsValueAt}
use Rattle.recorder.specs.KeptRows.{row_of, IsThere, IsKeptTable, table_within}
use Rattle.recorder.proofs.FirstSeen.{BeginsCall, AreFirstSeen-same, AreFirstSeen-first}

-- texts that come later change no text
pub text-more : (texts more : List ℕ) (span : Span) → span.start + span.length ≤ length texts → text_at (texts ++ more) span ≡ text_at texts span
text-more texts more span within =
    let a = span.start in
    let n = span.start + span.length in
    ap (λ (l : List ℕ). take (n - a) l) (drop-append-le a texts more (omega (arith, within))) ∙ take-append-le (n - a) (drop a texts) more (omega (arith, within, length-drop a texts))

pub value-more : (texts more : List ℕ) (span : Span) → IsValueAt texts span → IsValueAt (texts ++ more) span
value-more texts more span h = record {
  within = omega (arith, h.within, length-append texts more);
  short = h.short;
  utf8 = subst IsUtf8 (sym (text-more texts more span h.within)) h.utf8;
}

-- the text that was kept last
pub text-last : (texts text : List ℕ) (span : Span) → span.start ≡ length texts → span.length ≡ length text → text_at (texts ++ text) span ≡ text
text-last texts text span start size =
    let n : span.start + span.length - span.start ≡ length text = omega (arith, size) in
    ap₂ (λ (m : ℕ) (l : List ℕ). take m l) n (ap (λ (a : ℕ). drop a (texts ++ text)) start ∙ drop-append_seam texts text) ∙ ap (λ (l : List ℕ). take (length text) l) (sym (append-nil text)) ∙ take-append_seam text []

pub value-last : (texts text : List ℕ) (span : Span) → span.start ≡ length texts → span.length ≡ length text → length text ≤ value_limit → IsUtf8 text → IsValueAt (texts ++ text) span
value-last texts text span start size short utf8 = record {
  within = omega (arith, start, size, length-append texts text);
  short = omega (arith, size, short);
  utf8 = subst IsUtf8 (sym (text-last texts text span start size)) utf8;
}

module _ (keys ks : List (List ℕ)) (texts ts : List ℕ) where
  there-more : (row : KeptRow) → IsThere keys texts row → IsThere (keys ++ ks) (texts ++ ts) row
  there-more (kept.Read op client key) h = omega (arith, h, length-append keys ks)
  there-more (kept.Write op client key span) h = (omega (arith, h.0, length-append keys ks), value-more texts ts span h.1)
  there-more (kept.Note op tag) h = tt
  there-more (kept.Done op) h = tt
  there-more (kept.Absent op) h = tt
  there-more (kept.Answer op span) h = value-more texts ts span h

  key-same : (key : ℕ) → key < length keys → get_or (keys ++ ks) key [] ≡ get_or keys key []
  key-same key below = get_or_append_left keys ks [] key below

  row-same : (row : KeptRow) → IsThere keys texts row → row_of (keys ++ ks) (texts ++ ts) row ≡ row_of keys texts row
  row-same (kept.Read op client key) h = rw (key-same key h) refl
  row-same (kept.Write op client key span) h = rw (key-same key h.0, text-more texts ts span h.1.within) refl
  row-same (kept.Note op tag) h = refl
  row-same (kept.Done op) h = refl
  row-same (kept.Absent op) h = refl
  row-same (kept.Answer op span) h = rw (text-more texts ts span h.within) refl

  rows-same : (rows : List KeptRow) → ((k : ℕ) (row : KeptRow) → slice_get rows k ≡ Some row → IsThere keys texts row) → map (row_of (keys ++ ks) (texts ++ ts)) rows ≡ map (row_of keys texts) rows
  rows-same [] each = refl
  rows-same (row ∷ rows) each = ap₂ (λ (r : Row) (l : List Row). r ∷ l) (row-same row (each 0 row refl)) (rows-same rows (λ k r at. each (suc k) r at))

-- a row more
pub pushed : (t u : Inside) → IsKeptTable t → (row : KeptRow) (ks : List (List ℕ)) (ts : List ℕ) → u.rows.items ≡ t.rows.items ++ row ∷ [] → u.keys ≡ t.keys ++ ks → u.texts.items ≡ t.texts.items ++ ts
    → length t.rows.items < row_limit → IsThere u.keys u.texts.items row → length ts ≤ value_limit → length u.keys ≤ length t.rows.items + 1 → AreFirstSeen (table_within u).rows u.keys → IsKeptTable u
pushed t u h row ks ts rows keys texts few there short numbers seen = record {
  there = each_push (λ k r. IsThere u.keys u.texts.items r) t.rows.items u.rows.items row (λ k r at. rw (keys, texts) (there-more t.keys ks t.texts.items ts r (h.there k r at))) rows there;
  few = omega (arith, few, ap (λ (l : List KeptRow). length l) rows, length-append t.rows.items (row ∷ []));
  texts = omega (arith, short, h.texts, ap (λ (l : List KeptRow). length l) rows, length-append t.rows.items (row ∷ []), ap (λ (l : List ℕ). length l) texts, length-append t.texts.items ts);
  keys = omega (arith, numbers, ap (λ (l : List KeptRow). length l) rows, length-append t.rows.items (row ∷ []));
  seen = seen;
}

-- a table that holds what it held
pub kept-same : (t u : Inside) → IsKeptTable t → u.rows.items ≡ t.rows.items → u.texts.items ≡ t.texts.items → u.keys ≡ t.keys → IsKeptTable u
kept-same t u h rows texts keys = record {
  there = rw (rows, texts, keys) h.there;
  few = rw rows h.few;
  texts = rw (rows, texts) h.texts;
  keys = rw (rows, keys) h.keys;
  seen = rw (rows, texts, keys) h.seen;
}

-- what numbering a key leaves
pub numbered : {old new : List (List ℕ)} {key : List ℕ} {number : ℕ} → Numbers old key number new
    → (ks : List (List ℕ)) × (new ≡ old ++ ks) × (slice_get new number ≡ Some key) × (length new ≤ length old + 1)
numbered {old} (known at same) = ([], same ∙ sym (append-nil old), rw same at, omega (arith, ap (λ (l : List (List ℕ)). length l) same))
numbered {old} {key = key} (first absent is more) = (key ∷ [], more, rw (more, is) (slice_get-push_last old key), omega (arith, ap (λ (l : List (List ℕ)). length l) more, length-append old (key ∷ [])))

pub numbered-below : {old new : List (List ℕ)} {key : List ℕ} {number : ℕ} → Numbers old key number new → number < length new
numbered-below {new = new} {key} {number} h = slice_get_within new number key (numbered h).2

pub numbered-key : {old new : List (List ℕ)} {key : List ℕ} {number : ℕ} → Numbers old key number new → get_or new number [] ≡ key
numbered-key {new = new} {key} {number} h = get_or_from_slice_get new number key [] (numbered h).2

-- the row that stands at a place, as it is kept and as it is shown
pub stands : (t : Inside) (table : Table) (place : ℕ) (here row : KeptRow) → table_within t ≡ table → place < length table.rows → here ≡ get_or t.rows.items place here → here ≡ row → slice_get t.rows.items place ≡ Some row
stands t table place here row view below is same =
    let count : length (table_within t).rows ≡ length table.rows = ap (λ (x : Table). length x.rows) view in
    let whole = length-map t.rows.items (row_of t.keys t.texts.items) in
    item_at t.rows.items place here (omega (arith, below, count, whole)) is ∙ ap Some same

pub shown : (t : Inside) (table : Table) (place : ℕ) (row : KeptRow) (what : Row) → table_within t ≡ table → slice_get t.rows.items place ≡ Some row → what ≡ row_of t.keys t.texts.items row → slice_get table.rows place ≡ Some what
shown t table place row what view at is = ap (λ (x : Table). slice_get x.rows place) (sym view) ∙ slice_get-map_at (row_of t.keys t.texts.items) t.rows.items place row at ∙ ap Some (sym is)

-- a table has room where its rows are few
pub room : (t : Inside) (table : Table) → table_within t ≡ table → length table.rows < row_limit → length t.rows.items < row_limit
room t table view few =
    let count : length (table_within t).rows ≡ length table.rows = ap (λ (x : Table). length x.rows) view in
    omega (arith, few, count, length-map t.rows.items (row_of t.keys t.texts.items))

-- the rows of a table with one more
pub shown-pushed : (t u : Inside) (table : Table) → table_within t ≡ table → IsKeptTable t → (row : KeptRow) (ks : List (List ℕ)) (ts : List ℕ) → u.rows.items ≡ t.rows.items ++ row ∷ [] → u.keys ≡ t.keys ++ ks → u.texts.items ≡ t.texts.items ++ ts
    → (what : Row) → row_of u.keys u.texts.items row ≡ what → map (row_of u.keys u.texts.items) u.rows.items ≡ table.rows ++ what ∷ []
shown-pushed t u table view h row ks ts rows keys texts what is =
    ap (map (row_of u.keys u.texts.items)) rows ∙ map-append (row_of u.keys u.texts.items) t.rows.items (row ∷ [])
    ∙ ap₂ (λ (l : List Row) (r : Row). l ++ r ∷ []) (rw (keys, texts) (rows-same t.keys ks t.texts.items ts t.rows.items h.there) ∙ ap (λ (x : Table). x.rows) view) is

-- the keys stay those of the rows, with one more that begins no call
module _ (t u : Inside) (h : IsKeptTable t) (row : KeptRow) (ks : List (List ℕ)) (ts : List ℕ) (rows : u.rows.items ≡ t.rows.items ++ row ∷ []) (keys : u.keys ≡ t.keys ++ ks) (texts : u.texts.items ≡ t.texts.items ++ ts) where
  more : (what : Row) → row_of u.keys u.texts.items row ≡ what → (table_within u).rows ≡ (table_within t).rows ++ what ∷ []
  more what is = shown-pushed t u (table_within t) refl h row ks ts rows keys texts what is

  pub seen-other : (what : Row) → row_of u.keys u.texts.items row ≡ what → u.keys ≡ t.keys → ((key : List ℕ) → BeginsCall what key → ⊥) → AreFirstSeen (table_within u).rows u.keys
  seen-other what is same never = rw (more what is, same) (AreFirstSeen-same (table_within t).rows what t.keys h.seen (λ key b. absurd (never key b)))

  -- or with one that begins one
  pub seen-begun : (op : OpId) (client : ℕ) (key : List ℕ) (action : Action) (number : ℕ) → row_of u.keys u.texts.items row ≡ Invoke op client key action → Numbers t.keys key number u.keys → AreFirstSeen (table_within u).rows u.keys
  seen-begun op client key action number is (known at same) = rw (more (Invoke op client key action) is, same) (AreFirstSeen-same (table_within t).rows (Invoke op client key action) t.keys h.seen (λ k b.
      let own : key ≡ k = let e = b.3 in cc in
      subst (λ (x : List ℕ). Contains t.keys x) own (Contains-slice_get t.keys number key at)))
  seen-begun op client key action number is (first absent at_end is_more) = rw (more (Invoke op client key action) is, is_more) (AreFirstSeen-first (table_within t).rows (Invoke op client key action) t.keys h.seen key absent (op, client, action, refl))

-- keys and texts that came later
pub extends : (t u : Inside) (table : Table) → table_within t ≡ table → (ks : List (List ℕ)) (ts : List ℕ) → u.keys ≡ t.keys ++ ks → u.texts.items ≡ t.texts.items ++ ts → Extends table (table_within u)
extends t u table view ks ts keys texts = record {
  keys = (ks, keys ∙ ap (λ (x : Table). x.keys ++ ks) view);
  texts = (ts, texts ∙ ap (λ (x : Table). x.texts ++ ts) view);
}

-- a table that holds what it held is the same, whatever was answered
pub same-table : {X E : Type 0} (r : Result X E) (t u : Inside) (table : Table) → table_within t ≡ table → u.rows.items ≡ t.rows.items → u.texts.items ≡ t.texts.items → u.keys ≡ t.keys → OnErr r (table_within u ≡ table)
same-table (Ok x) t u table view rows texts keys = tt
same-table (Err e) t u table view rows texts keys = rw (rows, texts, keys) view
