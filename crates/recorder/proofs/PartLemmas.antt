-- Parts as groups of calls' numbers.
use Rattle.std.proofs.Common.{ℕ, zero, suc, ◌≡◌, ◌<◌, ◌+◌, inl, inr, List, [], ◌∷◌, ◌++◌, Option, Some, None, map, length, length-append, get_or, sym, ap, subst, ◌∙◌, refl, arith}
use Rattle.std.specs.List.{slice_get, Contains, zip}
use Rattle.std.proofs.lemmas.Bool.{cases_lt}
use Rattle.std.proofs.lemmas.List.{length-map}
use Rattle.std.proofs.lemmas.Option.{slice_get_within, slice_get-get_or, get_or_from_slice_get, same_Some, some_pair_parts}
use Rattle.key_index.specs.Numbers.{EachOnce}
use Rattle.tag.specs.declared.actions.Action.{Action}
use Rattle.tag.specs.declared.numbers.OpId.{OpId}
use Rattle.tag.proofs.Options.{none_some}
use Rattle.tag.proofs.Lists.{place_of, Contains-slice_get, get_at, each_push, slice_get-map_at, slice_get-map_back}
use Rattle.recorder.specs.declared.part.Call.{Call}
use Rattle.recorder.specs.declared.record.CallState.{CallState}
use Rattle.recorder.specs.declared.record.Record.{Record}
use Rattle.recorder.specs.declared.row.Row.{Row}
use Rattle.recorder.specs.declared.row.Row.TheVariants.{Invoke}
use Rattle.recorder.specs.Groups.{AreBelow, AreGroups, IsGroup}
use Rattle.recorder.specs.Histories.{IsWellFormed}
use Rattle.recorder.specs.PartRecords.{calls_of, part_of, entries_of, HasCalls, IsPartOf, AreEntries, AreKeyNumbers}
use Rattle.recorder.specs.Parts.{IsSequence}
use Rattle.recorder.specs.Records.{IsRecorded, IsPart, AreFirstSeen, AreParts}
use Rattle.recorder.specs.KeptCalls.{AreKept}
use Rattle.recorder.specs.States.{AreStates, call_of, no_state}
use Rattle.recorder.specs.Tables.{BeginsOn}
use Rattle.recorder.proofs.FirstSeen.{same_begun}
use Rattle.recorder.proofs.Numbers.{number_below, numbers_rise, begun_once}
use Rattle.recorder.proofs.Recorded.{recorded_of, IsSequence-recorded}

-- no call is a sequence
IsSequence-none : IsSequence []
IsSequence-none = record {
  numbers = λ i j a b less at_i at_j. absurd cc;
  places = λ i j a b less at_i at_j. absurd cc;
  responses = λ call response h e. absurd (omega (arith, h.1));
}

pub sequence_of : (from : Option Record) (numbers : List ℕ) → IsPartOf from numbers → IsSequence (part_of from numbers)
sequence_of None numbers is = IsSequence-none
sequence_of (Some from) numbers is = is.sequence

-- the number of the call at a place
pub op-shown : (from : Record) (numbers : List ℕ) (part : List Call) (place : ℕ) → calls_of from numbers ≡ part → place < length part → (call : Call) × (slice_get part place ≡ Some call) × (record { 0 = get_or numbers place 0 } ≡ call.op)
op-shown from numbers part place view below =
    let n = get_or numbers place 0 in
    let shown = call_of from.rows.texts from.states.items in
    let within : place < length numbers = omega (arith, below, ap length view, length-map numbers shown) in
    let at : slice_get numbers place ≡ Some n = slice_get-get_or numbers place 0 within in
    (shown n, ap (λ (p : List Call). slice_get p place) (sym view) ∙ slice_get-map_at shown numbers place n at, refl)

-- ---- keys beside their parts

zip_at : (keys : List (List ℕ)) (parts : List (List Call)) (k : ℕ) (key : List ℕ) (part : List Call) → slice_get keys k ≡ Some key → slice_get parts k ≡ Some part → slice_get (zip keys parts) k ≡ Some (key, part)
zip_at [] parts k key part at there = none_some at
zip_at (x ∷ keys) [] k key part at there = none_some there
zip_at (x ∷ keys) (y ∷ parts) zero key part at there = rw (same_Some x key at, same_Some y part there) refl
zip_at (x ∷ keys) (y ∷ parts) (suc k) key part at there = zip_at keys parts k key part at there

zip_back : (keys : List (List ℕ)) (parts : List (List Call)) (k : ℕ) (key : List ℕ) (part : List Call) → slice_get (zip keys parts) k ≡ Some (key, part) → (slice_get keys k ≡ Some key) × (slice_get parts k ≡ Some part)
zip_back [] parts k key part at = none_some at
zip_back (x ∷ keys) [] k key part at = none_some at
zip_back (x ∷ keys) (y ∷ parts) zero key part at = let p = some_pair_parts x key y part at in (ap Some p.0, ap Some p.1)
zip_back (x ∷ keys) (y ∷ parts) (suc k) key part at = zip_back keys parts k key part at

zip_all : (keys : List (List ℕ)) (parts : List (List Call)) → length parts ≡ length keys → length (zip keys parts) ≡ length keys
zip_all [] parts same = refl
zip_all (x ∷ keys) [] same = absurd (omega (arith, same))
zip_all (x ∷ keys) (y ∷ parts) same = ap suc (zip_all keys parts (omega (arith, same)))

pub length-entries : (from : Record) (groups : List (List ℕ)) → AreEntries from groups → length (entries_of from groups) ≡ length from.rows.keys
length-entries from groups are = zip_all from.rows.keys (map (calls_of from) groups) (length-map groups (calls_of from) ∙ are.all)

zip_keys : (keys : List (List ℕ)) (parts : List (List Call)) → length parts ≡ length keys → map (λ (e : List ℕ × List Call). e.0) (zip keys parts) ≡ keys
zip_keys [] parts same = refl
zip_keys (x ∷ keys) [] same = absurd (omega (arith, same))
zip_keys (x ∷ keys) (y ∷ parts) same = ap (λ (l : List (List ℕ)). x ∷ l) (zip_keys keys parts (omega (arith, same)))

-- the keys of the entries
pub entries-keys : (from : Record) (groups : List (List ℕ)) → AreEntries from groups → map (λ (e : List ℕ × List Call). e.0) (entries_of from groups) ≡ from.rows.keys
entries-keys from groups are = zip_keys from.rows.keys (map (calls_of from) groups) (length-map groups (calls_of from) ∙ are.all)

pub entry-at : (from : Record) (groups : List (List ℕ)) (k : ℕ) (key numbers : List ℕ) → slice_get from.rows.keys k ≡ Some key → slice_get groups k ≡ Some numbers → slice_get (entries_of from groups) k ≡ Some (key, calls_of from numbers)
entry-at from groups k key numbers at there = zip_at from.rows.keys (map (calls_of from) groups) k key (calls_of from numbers) at (slice_get-map_at (calls_of from) groups k numbers there)

pub entry-back : (from : Record) (groups : List (List ℕ)) (key : List ℕ) (part : List Call) → Contains (entries_of from groups) (key, part) → (k : ℕ) × (numbers : List ℕ) × (slice_get from.rows.keys k ≡ Some key) × (slice_get groups k ≡ Some numbers) × (calls_of from numbers ≡ part)
entry-back from groups key part h =
    let k = place_of (entries_of from groups) (key, part) h in
    let both = zip_back from.rows.keys (map (calls_of from) groups) k.0 key part k.1 in
    let g = slice_get-map_back (calls_of from) groups k.0 part both.1 in
    (k.0, g.0, both.0, g.1, g.2)

-- the number of one call's key more
pub key_numbers-more : (of : Record) (numbers new : List ℕ) (n number : ℕ) (state : CallState) → (length numbers ≡ n) × ((k key : ℕ) (s : CallState) → slice_get numbers k ≡ Some key → slice_get of.states.items k ≡ Some s → BeginsOn of.rows s.invoked key) → slice_get of.states.items n ≡ Some state → BeginsOn of.rows state.invoked number → new ≡ numbers ++ number ∷ []
    → (length new ≡ n + 1) × ((k key : ℕ) (s : CallState) → slice_get new k ≡ Some key → slice_get of.states.items k ≡ Some s → BeginsOn of.rows s.invoked key)
key_numbers-more of numbers new n number state before at here is = (
  omega (arith, before.0, ap (λ (l : List ℕ). length l) is, length-append numbers (number ∷ [])),
  λ k key s there at_k. each_push (λ (i m : ℕ). (one : CallState) → slice_get of.states.items i ≡ Some one → BeginsOn of.rows one.invoked m) numbers new number (λ i m found one at_i. before.1 i m one found at_i) is
      (λ one at_i. let same : state ≡ one = same_Some state one (sym at ∙ (ap (slice_get of.states.items) (sym before.0) ∙ at_i)) in subst (λ (x : CallState). BeginsOn of.rows x.invoked number) same here) k key there s at_k,
)

-- a key that the record hasn't numbered has no part
pub no-entry : (from : Record) (groups : List (List ℕ)) (key : List ℕ) → (Contains from.rows.keys key → ⊥) → (part : List Call) → Contains (entries_of from groups) (key, part) → ⊥
no-entry from groups key unseen part h =
    let e = entry-back from groups key part h in
    unseen (Contains-slice_get from.rows.keys e.0 key e.2)

-- ---- the calls of a key

-- of two recorded calls the one of the lower number is begun first
begun_first : (rows : List Row) → IsWellFormed rows → (key : List ℕ) (a b : Call) → IsRecorded rows key a → IsRecorded rows key b → a.op.0 < b.op.0 → a.invoked < b.invoked
begun_first rows formed key a b x y less = elim (cases_lt a.invoked b.invoked) [
  | inl h ↦ h
  | inr h ↦ elim (cases_lt b.invoked a.invoked) [
    | inl g ↦ absurd (omega (arith, less, numbers_rise rows formed b.invoked a.invoked b.op a.op b.client a.client key key b.action a.action g y.begun x.begun))
    | inr g ↦
        let place : a.invoked ≡ b.invoked = omega (arith, h, g) in
        let row : Invoke a.op a.client key a.action ≡ Invoke b.op b.client key b.action = cc (x.begun, y.begun, ap (slice_get rows) place) in
        let one : a.op ≡ b.op = cc in
        absurd (omega (arith, less, ap (λ (o : OpId). o.0) one))
  ]
]

module _ (from : Record) (formed : IsWellFormed from.rows.rows) (states : AreStates from.rows.rows from.states.items) (kept : AreKept from.rows from.states.items) (once : EachOnce from.rows.keys) (seen : AreFirstSeen from.rows.rows from.rows.keys) (key_of : List ℕ) (are : AreKeyNumbers from key_of) where
  abbrev rows : List Row
  rows = from.rows.rows

  abbrev call : ℕ → Call
  call number = call_of from.rows.texts from.states.items number

  pub below-keys : AreBelow (length from.rows.keys) key_of
  below-keys k number at =
      let s = get_at from.states.items k (omega (arith, slice_get_within key_of k number at, are.all)) in
      let b = are.each k number s.0 at s.1 in
      slice_get_within from.rows.keys number b.key b.known

  -- a call whose key has that number is one on the key
  recorded : (k number : ℕ) (key : List ℕ) → slice_get key_of k ≡ Some number → slice_get from.rows.keys number ≡ Some key → IsRecorded rows key (call k)
  recorded k number key at known =
      let s = get_at from.states.items k (omega (arith, slice_get_within key_of k number at, are.all)) in
      let op : OpId = record { 0 = k } in
      let d = states.each op s.0 s.1 in
      let b = are.each k number s.0 at s.1 in
      let own : b.key ≡ key = same_Some b.key key (sym b.known ∙ known) in
      let same : d.key ≡ key = same_begun rows s.0.invoked d.key b.key (op, s.0.client, d.action, d.invoked) b.begun ∙ own in
      recorded_of from.rows from.states.items states kept op s.0 s.1 key s.0.client d.action (subst (λ (x : List ℕ). slice_get rows s.0.invoked ≡ Some (Invoke op s.0.client x d.action)) same d.invoked)

  -- a call that is begun on the key has the key's number, and is begun there
  found : (place : ℕ) (op : OpId) (client : ℕ) (key : List ℕ) (action : Action) → slice_get rows place ≡ Some (Invoke op client key action) → (number : ℕ) × (slice_get key_of op.0 ≡ Some number) × (slice_get from.rows.keys number ≡ Some key) × ((call op.0).invoked ≡ place)
  found place op client key action begun =
      let below = number_below rows formed op client key action (Contains-slice_get rows place (Invoke op client key action) begun) in
      let s = get_at from.states.items op.0 (omega (arith, below, states.all)) in
      let n = get_at key_of op.0 (omega (arith, below, states.all, are.all)) in
      let d = states.each op s.0 s.1 in
      let b = are.each op.0 n.0 s.0 n.1 s.1 in
      let here : place ≡ s.0.invoked = begun_once rows formed place s.0.invoked op client s.0.client key d.key action d.action begun d.invoked in
      let own : b.key ≡ key = same_begun rows s.0.invoked b.key key b.begun (op, client, action, ap (slice_get rows) (sym here) ∙ begun) in
      (n.0, n.1, subst (λ (x : List ℕ). slice_get from.rows.keys n.0 ≡ Some x) own b.known, ap (λ (x : CallState). x.invoked) (get_or_from_slice_get from.states.items op.0 s.0 no_state s.1) ∙ sym here)

  module _ (k : ℕ) (key numbers : List ℕ) (known : slice_get from.rows.keys k ≡ Some key) (group : IsGroup key_of k numbers) where
    each : (c : Call) → Contains (calls_of from numbers) c → IsRecorded rows key c
    each c h =
        let i = place_of (calls_of from numbers) c h in
        let m = slice_get-map_back call numbers i.0 c i.1 in
        subst (IsRecorded rows key) m.2 (recorded m.0 k key (group.each m.0 (Contains-slice_get numbers i.0 m.0 m.1)) known)

    ordered : (i j : ℕ) (a b : Call) → i < j → slice_get (calls_of from numbers) i ≡ Some a → slice_get (calls_of from numbers) j ≡ Some b → a.invoked < b.invoked
    ordered i j a b less at_i at_j =
        let m = slice_get-map_back call numbers i a at_i in
        let n = slice_get-map_back call numbers j b at_j in
        let up : m.0 < n.0 = group.rising i j m.0 n.0 less m.1 n.1 in
        let first : a.op ≡ record { 0 = m.0 } = ap (λ (x : Call). x.op) (sym m.2) in
        let second : b.op ≡ record { 0 = n.0 } = ap (λ (x : Call). x.op) (sym n.2) in
        begun_first rows formed key a b (each a (Contains-slice_get (calls_of from numbers) i a at_i)) (each b (Contains-slice_get (calls_of from numbers) j b at_j)) (omega (arith, up, ap (λ (o : OpId). o.0) first, ap (λ (o : OpId). o.0) second))

    IsPart-made : IsPart rows key (calls_of from numbers)
    IsPart-made = record {
      each = each;
      all = λ place op client action begun.
          let f = found place op client key action begun in
          let same : f.0 ≡ k = once f.0 k key f.2 known in
          let i = place_of numbers op.0 (group.all op.0 (f.1 ∙ ap Some same)) in
          (call op.0, Contains-slice_get (calls_of from numbers) i.0 (call op.0) (slice_get-map_at call numbers i.0 op.0 i.1), f.3);
      ordered = ordered;
    }

    HasCalls-made : HasCalls from numbers
    HasCalls-made = record {
      states = states;
      kept = kept;
      begun = λ i number at. omega (arith, slice_get_within key_of number k (group.each number (Contains-slice_get numbers i number at)), are.all);
      sequence = IsSequence-recorded rows formed key (calls_of from numbers) each ordered;
    }

  module _ (groups : List (List ℕ)) (grouped : AreGroups key_of (length from.rows.keys) groups) where
    pub AreEntries-made : AreEntries from groups
    AreEntries-made = record {
      all = grouped.all;
      each = λ k numbers at.
          let key = get_at from.rows.keys k (omega (arith, slice_get_within groups k numbers at, grouped.all)) in
          HasCalls-made k key.0 numbers key.1 (grouped.each k numbers at);
    }

    pub AreParts-made : AreParts rows (entries_of from groups)
    AreParts-made = record {
      each = λ key part h.
          let e = entry-back from groups key part h in
          subst (IsPart rows key) e.4 (IsPart-made e.0 key e.1 e.2 (grouped.each e.0 e.1 e.3));
      all = λ key place b.
          let f = found place b.0 b.1 key b.2 b.3 in
          let g = get_at groups f.0 (omega (arith, slice_get_within from.rows.keys f.0 key f.2, grouped.all)) in
          (calls_of from g.0, Contains-slice_get (entries_of from groups) f.0 (key, calls_of from g.0) (entry-at from groups f.0 key g.0 f.2 g.1));
      seen = λ key part h. let e = entry-back from groups key part h in seen.seen e.0 key e.2;
      ordered = λ i j k l p q m n less at_i at_j f g.
          let a = zip_back from.rows.keys (map (calls_of from) groups) i k p at_i in
          let b = zip_back from.rows.keys (map (calls_of from) groups) j l q at_j in
          seen.ordered i j k l m n less a.0 b.0 f g;
    }
