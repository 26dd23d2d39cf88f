-- Which fault a value has: the steps that read it, and what each has shown once it fails.
use Rattle.std.proofs.Common.{ℕ, zero, suc, ◌≡◌, ◌↔◌, ◌≢◌, ◌≤◌, ◌^◌, ◌⊎◌, ◌&&◌, inl, inr, List, []}
use Rattle.std.proofs.Common.{◌∷◌, Bool, true, false, cond, Option, Some, None, Result, Ok, Err}
use Rattle.std.proofs.Common.{codes, bytes_eq, is_some, nat_lt, nat_le, ◌==◌, map, refl, sym, ap}
use Rattle.std.proofs.Common.{◌∙◌, subst, arith, eqb-true}
use Rattle.std.specs.List.{slice_get, list_all}
use Rattle.std.specs.Cmp.Lexicographic.{bytes_decides}
use Rattle.std.proofs.lemmas.Bool.{ltb-false, leb-false, and_cases}
use Rattle.serde_json.specs.Data.{Data, null, boolean, number, string, array, object}
use Rattle.serde_json.specs.Find.{get, as_null, as_str}
use Rattle.tag.specs.declared.actions.Action.{Action}
use Rattle.tag.specs.declared.actions.Action.TheVariants.{Read, Write}
use Rattle.tag.specs.declared.actions.Returned.{Returned}
use Rattle.tag.specs.declared.actions.Returned.TheVariants.{Value, Written}
use Rattle.tag.specs.declared.numbers.OpId.{OpId}
use Rattle.tag.specs.Tags.{Tag}
use Rattle.tag.specs.Names.{is_key, is_value}
use Rattle.recorder.specs.declared.row.Row.{Row}
use Rattle.recorder.specs.declared.row.Row.TheVariants.{Invoke, Note, Respond}
use Rattle.recorder.specs.declared.order.KeyOrder.{KeyOrder}
use Rattle.file_format.specs.declared.fault.LineFault.{LineFault}
use Rattle.file_format.specs.declared.fault.LineFault.TheVariants.{NoHeader, Version, Member, Range}
use Rattle.counted_devices.specs.Answers.{◌>>=◌}
use Rattle.file_format.specs.Members.{needed_member, in_range, text_at, number_at, numbers_at}
use Rattle.file_format.specs.Rows.{invocation_of, written_in, action_of, invoke_in, note_in}
use Rattle.file_format.specs.Rows.{answer_of, returned_of, respond_in, row_of, row_in}
use Rattle.file_format.specs.OrderLines.{piece_in}
use Rattle.file_format.specs.Headers.{header_of, header_in}
use Rattle.file_format.specs.Says.{HasText, HasNumber, HasAction, reads, writes, HasAnswer, written}
use Rattle.file_format.specs.Says.{answered_null, answered, SaysInvoke, SaysNote, SaysRespond}
use Rattle.file_format.specs.Says.{SaysRow, SaysHeader, SaysPiece}
use Rattle.file_format.specs.LineFaults.{LacksInvokeMember, no_call_begun, no_client, no_key}
use Rattle.file_format.specs.LineFaults.{no_action, no_value, LacksNoteMember, no_call_noted}
use Rattle.file_format.specs.LineFaults.{no_number, no_writer, LacksRespondMember, no_call_answered}
use Rattle.file_format.specs.LineFaults.{no_answer, LacksRowMember, no_row, of_invoke, of_note}
use Rattle.file_format.specs.LineFaults.{of_respond, LacksPieceMember, no_subject, no_order}
use Rattle.file_format.specs.LineFaults.{IsInvokeOutOfRange, great_call_begun, client_zero}
use Rattle.file_format.specs.LineFaults.{great_client, bad_key, other_action, long_value}
use Rattle.file_format.specs.LineFaults.{IsNoteOutOfRange, great_call_noted, great_number}
use Rattle.file_format.specs.LineFaults.{great_writer, IsRespondOutOfRange, great_call_answered}
use Rattle.file_format.specs.LineFaults.{long_answer, IsRowOutOfRange, other_row, out_of_invoke}
use Rattle.file_format.specs.LineFaults.{out_of_note, out_of_respond, IsPieceOutOfRange}
use Rattle.file_format.specs.LineFaults.{bad_subject, great_call, IsMemberFault, HasRowFault}
use Rattle.file_format.specs.LineFaults.{HasPieceFault, HasHeaderFault}
use Rattle.file_format.proofs.SayingRows.{action_back, returned_back, row_back}
use Rattle.file_format.proofs.SayingPieces.{piece_back}

-- ---- what a step tells

-- an answer without a fault, or with the one that there is
abbrev pub Told : {X : Type 0} → Type 0 → Type 0 → Result X LineFault → Type 0
Told L O (Ok x) = Unit {0}
Told L O (Err fault) = IsMemberFault L O fault

module _ (L O : Type 0) where
  pub bind : {A B : Type 0} (r : Result A LineFault) (f : A → Result B LineFault) → Told L O r → ((x : A) → r ≡ Ok x → Told L O (f x))
      → Told L O (r >>= f)
  bind (Ok x) f h k = k x refl
  bind (Err e) f h k = h

  -- a step that needs a member, and then goes on
  pub need : {X B : Type 0} (o : Option X) (f : X → Result B LineFault) → (((x : X) → o ≡ Some x → ⊥) → L)
      → ((x : X) → o ≡ Some x → Told L O (f x)) → Told L O (needed_member o >>= f)
  need None f lacks more = lacks (λ x e. cc)
  need (Some x) f lacks more = more x refl

  -- a step that wants a range, and then goes on
  pub range : {X B : Type 0} (b : Bool) (x : X) (f : X → Result B LineFault) → (b ≡ false → (L → ⊥) × O) → Told L O (f x)
      → Told L O (in_range b x >>= f)
  range true x f out more = more
  range false x f out more = out refl

  picked : {X : Type 0} (b : Bool) (x y : Result X LineFault) → (b ≡ true → Told L O x) → (b ≡ false → Told L O y) → Told L O (cond b x y)
  picked true x y h k = h refl
  picked false x y h k = k refl

  -- of two faults one is told
  pub which : (f : LineFault) → IsMemberFault L O f → ((f ≡ Member) × L) ⊎ ((f ≡ Range) × (L → ⊥))
  which Member h = inl (refl, h)
  which Range h = inr (refl, h.0)
  which _ h = absurd h

  pub one : (f g : LineFault) → IsMemberFault L O f → IsMemberFault L O g → f ≡ g
  one f g h k =
      elim (which f h) [
        | inl a ↦ elim (which g k) [ inl b ↦ a.0 ∙ sym b.0 | inr b ↦ absurd (b.1 a.1) ]
        | inr a ↦ elim (which g k) [ inl b ↦ absurd (a.1 b.1) | inr b ↦ a.0 ∙ sym b.0 ]
      ]

  none : (f : LineFault) → (L → ⊥) → (O → ⊥) → IsMemberFault L O f → ⊥
  none Member l o h = l h
  none Range l o h = o h.1
  none _ l o h = h

  pub decided : {X : Type 0} (r : Result X LineFault) (f : LineFault) → Told L O r → ((x : X) → r ≡ Ok x → (L → ⊥) × (O → ⊥))
      → (r ≡ Err f) ↔ IsMemberFault L O f
  decided (Ok x) f t fine = (λ e. cc, λ h. absurd (none f (fine x refl).0 (fine x refl).1 h))
  decided {X = X} (Err g) f t fine =
      let P : LineFault → Type 0 = λ x. IsMemberFault L O x in
      (λ e. let same : g ≡ f = cc in subst P same t, λ h. ap (λ (x : LineFault). Err x) (one g f t h))

-- ---- rows

pub two_texts : (d : Data) (name a b : List ℕ) → HasText d name a → HasText d name b → bytes_eq a b ≡ false → ⊥
two_texts d name a b h k apart =
    let same : Some a ≡ Some b = sym h ∙ k in
    let equal : a ≡ b = cc in
    let yes = (bytes_decides a b).1 equal in
    cc

other : (a b : List ℕ) → bytes_eq a b ≡ false → a ≢ b
other a b apart equal = let yes = (bytes_decides a b).1 equal in cc

pub equal_to : (a b : List ℕ) → bytes_eq a b ≡ true → Some a ≡ Some b
equal_to a b e = ap Some ((bytes_decides a b).0 e)

-- the members that an invocation has
record Members (d : Data) (call client : ℕ) (key name : List ℕ) : Type 0 where
  pub op : HasNumber d (codes "call") call
  pub who : HasNumber d (codes "client") client
  pub subject : HasText d (codes "key") key
  pub asks : HasText d (codes "do") name

-- a write has a text as its value
abbrev Valued : Data → Type 0
Valued d = HasText d (codes "do") (codes "write") → (value : List ℕ) × HasText d (codes "value") value

invoke_has : (d : Data) (call client : ℕ) (key name : List ℕ) → Members d call client key name → Valued d → LacksInvokeMember d → ⊥
invoke_has d call client key name m v (no_call_begun h) = h call m.op
invoke_has d call client key name m v (no_client h) = h client m.who
invoke_has d call client key name m v (no_key h) = h key m.subject
invoke_has d call client key name m v (no_action h) = h name m.asks
invoke_has d call client key name m v (no_value w h) = let x = v w in h x.0 x.1

valued : (d : Data) (action : Action) → HasAction d action → Valued d
valued d Read (reads here) w = absurd (two_texts d (codes "do") (codes "read") (codes "write") here w refl)
valued d (Write _) (writes value here h) w = (value, h.text)

written_told : (d : Data) (call client : ℕ) (key name : List ℕ) → Members d call client key name → HasText d (codes "do") (codes "write")
    → Told (LacksInvokeMember d) (IsInvokeOutOfRange d) (written_in d)
unfolding written_in
written_told d call client key name m w =
    let L = LacksInvokeMember d in
    let O = IsInvokeOutOfRange d in
    need L O (text_at (codes "value") d) _ (λ lacks. no_value w lacks) (λ text t.
    range L O (is_value text) text _ (λ out. (invoke_has d call client key name m (λ u. (text, t)), long_value w (text, t, out))) tt)

action_told : (d : Data) (call client : ℕ) (key name : List ℕ) → Members d call client key name
    → Told (LacksInvokeMember d) (IsInvokeOutOfRange d) (action_of name d)
unfolding action_of
action_told d call client key name m =
    let L = LacksInvokeMember d in
    let O = IsInvokeOutOfRange d in
    picked L O (bytes_eq name (codes "read")) (Ok Read) _ (λ e. tt) (λ no_read.
    picked L O (bytes_eq name (codes "write")) (written_in d) (Err Range)
    (λ e. written_told d call client key name m (m.asks ∙ equal_to name (codes "write") e)) (λ no_write. (
      invoke_has d call client key name m (λ w. absurd (two_texts d (codes "do") name (codes "write") m.asks w no_write)),
      other_action name m.asks (other name (codes "read") no_read) (other name (codes "write") no_write),
    )))

client_out : (d : Data) (client : ℕ) → HasNumber d (codes "client") client → (nat_le 1 client && nat_le client 65535) ≡ false
    → IsInvokeOutOfRange d
client_out d client here e =
    elim (and_cases (nat_le 1 client) (nat_le client 65535) e) [
      | inl low ↦ let zero_is : client ≡ 0 = omega (arith, leb-false 1 client low) in client_zero (here ∙ ap Some zero_is)
      | inr high ↦ great_client client here (leb-false client 65535 high)
    ]

begun_told : (d : Data) (call client : ℕ) (key name : List ℕ) (action : Action) → Members d call client key name → Valued d
    → Told (LacksInvokeMember d) (IsInvokeOutOfRange d) (invocation_of call client key action)
unfolding invocation_of
begun_told d call client key name action m v =
    let L = LacksInvokeMember d in
    let O = IsInvokeOutOfRange d in
    let all : LacksInvokeMember d → ⊥ = invoke_has d call client key name m v in
    range L O (nat_lt call (2 ^ 32)) _ _ (λ out. (all, great_call_begun (call, m.op, ltb-false call (2 ^ 32) out))) (
    range L O (nat_le 1 client && nat_le client 65535) client _ (λ out. (all, client_out d client m.who out)) (
    range L O (is_key key) key _ (λ out. (all, bad_key (key, m.subject, out))) tt))

invoke_told : (d : Data) → Told (LacksInvokeMember d) (IsInvokeOutOfRange d) (invoke_in d)
unfolding invoke_in
invoke_told d =
    let L = LacksInvokeMember d in
    let O = IsInvokeOutOfRange d in
    need L O (number_at (codes "call") d) _ (λ lacks. no_call_begun lacks) (λ call c.
    need L O (number_at (codes "client") d) _ (λ lacks. no_client lacks) (λ client w.
    need L O (text_at (codes "key") d) _ (λ lacks. no_key lacks) (λ key k.
    need L O (text_at (codes "do") d) _ (λ lacks. no_action lacks) (λ name n.
    let m : Members d call client key name = record { op = c; who = w; subject = k; asks = n } in
    bind L O (action_of name d) _ (action_told d call client key name m) (λ action a.
    begun_told d call client key name action m (valued d action (action_back d name action n a)))))))

note_has : (d : Data) (call tag writer : ℕ) → HasNumber d (codes "call") call → HasNumber d (codes "number") tag
    → HasNumber d (codes "writer") writer → LacksNoteMember d → ⊥
note_has d call tag writer c n w (no_call_noted h) = h call c
note_has d call tag writer c n w (no_number h) = h tag n
note_has d call tag writer c n w (no_writer h) = h writer w

tag_out : (d : Data) (tag writer : ℕ) → HasNumber d (codes "number") tag → HasNumber d (codes "writer") writer
    → (nat_le tag 1000000 && nat_le writer 65535) ≡ false → IsNoteOutOfRange d
tag_out d tag writer n w e =
    elim (and_cases (nat_le tag 1000000) (nat_le writer 65535) e) [
      | inl few ↦ great_number tag n (leb-false tag 1000000 few)
      | inr named ↦ great_writer writer w (leb-false writer 65535 named)
    ]

note_told : (d : Data) → Told (LacksNoteMember d) (IsNoteOutOfRange d) (note_in d)
unfolding note_in
note_told d =
    let L = LacksNoteMember d in
    let O = IsNoteOutOfRange d in
    need L O (number_at (codes "call") d) _ (λ lacks. no_call_noted lacks) (λ call c.
    need L O (number_at (codes "number") d) _ (λ lacks. no_number lacks) (λ tag n.
    need L O (number_at (codes "writer") d) _ (λ lacks. no_writer lacks) (λ writer w.
    let all : LacksNoteMember d → ⊥ = note_has d call tag writer c n w in
    range L O (nat_lt call (2 ^ 32)) _ _ (λ out. (all, great_call_noted (call, c, ltb-false call (2 ^ 32) out))) (
    range L O (nat_le tag 1000000 && nat_le writer 65535) _ _ (λ out. (all, tag_out d tag writer n w out)) tt))))

-- what an answer is: missing, null, a text, or something else
data Answer (d : Data) : Option Data → Type 0 where
  missing : get (codes "value") d ≡ None → Answer d None
  nothing : get (codes "value") d ≡ Some null → Answer d (Some null)
  a_text : (value : List ℕ) → get (codes "value") d ≡ Some (string value) → Answer d (Some (string value))
  wrong : (value : Data) → get (codes "value") d ≡ Some value → value ≢ null → ((s : List ℕ) → value ≢ string s)
      → is_some (as_null value) ≡ false → as_str value ≡ None → Answer d (Some value)

answer_at : (d : Data) (o : Option Data) → get (codes "value") d ≡ o → Answer d o
answer_at d None here = missing here
answer_at d (Some null) here = nothing here
answer_at d (Some (string s)) here = a_text s here
answer_at d (Some (boolean b)) here = wrong (boolean b) here (λ e. cc) (λ s e. cc) refl refl
answer_at d (Some (number n)) here = wrong (number n) here (λ e. cc) (λ s e. cc) refl refl
answer_at d (Some (array ds)) here = wrong (array ds) here (λ e. cc) (λ s e. cc) refl refl
answer_at d (Some (object ms)) here = wrong (object ms) here (λ e. cc) (λ s e. cc) refl refl

-- the answer is missing, null or a text
abbrev IsAnswer : Data → Type 0
IsAnswer d = (value : Data) → get (codes "value") d ≡ Some value → value ≢ null → ((s : List ℕ) → value ≢ string s) → ⊥

respond_has : (d : Data) (call : ℕ) → HasNumber d (codes "call") call → IsAnswer d → LacksRespondMember d → ⊥
respond_has d call c fits (no_call_answered h) = h call c
respond_has d call c fits (no_answer value here no_null no_text) = fits value here no_null no_text

fits_at : (d : Data) (o : Option Data) → get (codes "value") d ≡ o
    → ((value : Data) → o ≡ Some value → value ≢ null → ((s : List ℕ) → value ≢ string s) → ⊥) → IsAnswer d
fits_at d o here h = λ value there no_null no_text. h value (sym here ∙ there) no_null no_text

answer_told : (d : Data) (call : ℕ) → HasNumber d (codes "call") call → (o : Option Data) → Answer d o
    → Told (LacksRespondMember d) (IsRespondOutOfRange d) (returned_of o)
unfolding returned_of answer_of
answer_told d call c None (missing here) = tt
answer_told d call c (Some null) (nothing here) = tt
answer_told d call c (Some (string _)) (a_text value here) =
    let L = LacksRespondMember d in
    let O = IsRespondOutOfRange d in
    let there : HasText d (codes "value") value = rw here refl in
    let fits : IsAnswer d = fits_at d (Some (string value)) here (λ v e no_null no_text.
    no_text value (let same : v ≡ string value = cc in same)) in
    range L O (is_value value) value _ (λ out. (respond_has d call c fits, long_answer (value, there, out))) tt
answer_told d call c (Some _) (wrong value here no_null no_text null_no text_no) =
    rw (null_no, text_no) (no_answer value here no_null no_text)

answered_fits : (d : Data) (returned : Returned) → HasAnswer d returned → IsAnswer d
answered_fits d Written (written here) = fits_at d None here (λ v e no_null no_text. cc)
answered_fits d (Value None) (answered_null here) =
    fits_at d (Some null) here (λ v e no_null no_text. no_null (let same : v ≡ null = cc in same))
answered_fits d (Value (Some _)) (answered value h) = λ v there no_null no_text. text_only v there no_text h.text
  where
    text_only : (v : Data) → get (codes "value") d ≡ Some v → ((s : List ℕ) → v ≢ string s) → HasText d (codes "value") value → ⊥
    text_only null there no_text here = let same : text_at (codes "value") d ≡ None = rw there refl in cc
    text_only (boolean b) there no_text here = let same : text_at (codes "value") d ≡ None = rw there refl in cc
    text_only (number n) there no_text here = let same : text_at (codes "value") d ≡ None = rw there refl in cc
    text_only (string s) there no_text here = no_text s refl
    text_only (array ds) there no_text here = let same : text_at (codes "value") d ≡ None = rw there refl in cc
    text_only (object ms) there no_text here = let same : text_at (codes "value") d ≡ None = rw there refl in cc

respond_told : (d : Data) → Told (LacksRespondMember d) (IsRespondOutOfRange d) (respond_in d)
unfolding respond_in
respond_told d =
    let L = LacksRespondMember d in
    let O = IsRespondOutOfRange d in
    let answer = get (codes "value") d in
    need L O (number_at (codes "call") d) _ (λ lacks. no_call_answered lacks) (λ call c.
    bind L O (returned_of answer) _ (answer_told d call c answer (answer_at d answer refl)) (λ returned r.
    let fits = answered_fits d returned (returned_back d answer returned refl r) in
    range L O (nat_lt call (2 ^ 32)) _ _ (λ out. (respond_has d call c fits, great_call_answered (call, c, ltb-false call (2 ^ 32) out)))
    tt))

-- what is told of a kind of row is told of the row
lifted : {X : Type 0} (K P L O : Type 0) (r : Result X LineFault) → (K → L) → (L → K) → (P → O) → Told K P r → Told L O r
lifted K P L O (Ok x) up down out t = tt
lifted K P L O (Err Member) up down out t = up t
lifted K P L O (Err Range) up down out t = (λ l. t.0 (down l), out t.1)
lifted K P L O (Err _) up down out t = absurd t

of_invoke_alone : (d : Data) → HasText d (codes "row") (codes "invoke") → LacksRowMember d → LacksInvokeMember d
of_invoke_alone d kind (no_row h) = absurd (h (codes "invoke") kind)
of_invoke_alone d kind (of_invoke k h) = h
of_invoke_alone d kind (of_note k h) = absurd (two_texts d (codes "row") (codes "invoke") (codes "note") kind k refl)
of_invoke_alone d kind (of_respond k h) = absurd (two_texts d (codes "row") (codes "invoke") (codes "respond") kind k refl)

of_note_alone : (d : Data) → HasText d (codes "row") (codes "note") → LacksRowMember d → LacksNoteMember d
of_note_alone d kind (no_row h) = absurd (h (codes "note") kind)
of_note_alone d kind (of_invoke k h) = absurd (two_texts d (codes "row") (codes "note") (codes "invoke") kind k refl)
of_note_alone d kind (of_note k h) = h
of_note_alone d kind (of_respond k h) = absurd (two_texts d (codes "row") (codes "note") (codes "respond") kind k refl)

of_respond_alone : (d : Data) → HasText d (codes "row") (codes "respond") → LacksRowMember d → LacksRespondMember d
of_respond_alone d kind (no_row h) = absurd (h (codes "respond") kind)
of_respond_alone d kind (of_invoke k h) = absurd (two_texts d (codes "row") (codes "respond") (codes "invoke") kind k refl)
of_respond_alone d kind (of_note k h) = absurd (two_texts d (codes "row") (codes "respond") (codes "note") kind k refl)
of_respond_alone d kind (of_respond k h) = h

-- a row of no kind needs no further member
no_kind : (d : Data) (kind : List ℕ) → HasText d (codes "row") kind → bytes_eq kind (codes "invoke") ≡ false
    → bytes_eq kind (codes "note") ≡ false → bytes_eq kind (codes "respond") ≡ false → LacksRowMember d → ⊥
no_kind d kind here i n r (no_row h) = h kind here
no_kind d kind here i n r (of_invoke k h) = two_texts d (codes "row") kind (codes "invoke") here k i
no_kind d kind here i n r (of_note k h) = two_texts d (codes "row") kind (codes "note") here k n
no_kind d kind here i n r (of_respond k h) = two_texts d (codes "row") kind (codes "respond") here k r

pub row_told : (d : Data) → Told (LacksRowMember d) (IsRowOutOfRange d) (row_in d)
unfolding row_in row_of
row_told d =
    let L = LacksRowMember d in
    let O = IsRowOutOfRange d in
    need L O (text_at (codes "row") d) _ (λ lacks. no_row lacks) (λ kind here.
    picked L O (bytes_eq kind (codes "invoke")) (invoke_in d) _ (λ e.
    let is = here ∙ equal_to kind (codes "invoke") e in
    lifted (LacksInvokeMember d) (IsInvokeOutOfRange d) L O (invoke_in d) (λ h. of_invoke is h) (λ h. of_invoke_alone d is h)
    (λ h. out_of_invoke is h) (invoke_told d)) (λ i.
    picked L O (bytes_eq kind (codes "note")) (note_in d) _ (λ e.
    let is = here ∙ equal_to kind (codes "note") e in
    lifted (LacksNoteMember d) (IsNoteOutOfRange d) L O (note_in d) (λ h. of_note is h) (λ h. of_note_alone d is h)
    (λ h. out_of_note is h) (note_told d)) (λ n.
    picked L O (bytes_eq kind (codes "respond")) (respond_in d) (Err Range) (λ e.
    let is = here ∙ equal_to kind (codes "respond") e in
    lifted (LacksRespondMember d) (IsRespondOutOfRange d) L O (respond_in d) (λ h. of_respond is h) (λ h. of_respond_alone d is h)
    (λ h. out_of_respond is h) (respond_told d)) (λ r. (
      no_kind d kind here i n r,
      other_row kind here (other kind (codes "invoke") i) (other kind (codes "note") n)
          (other kind (codes "respond") r),
    )))))

-- ---- a row that is said has no fault

pub one_text : (d : Data) (name a b : List ℕ) → HasText d name a → HasText d name b → a ≡ b
one_text d name a b h k = let same : Some a ≡ Some b = sym h ∙ k in cc

pub one_number : (d : Data) (name : List ℕ) (a b : ℕ) → HasNumber d name a → HasNumber d name b → a ≡ b
one_number d name a b h k = let same : Some a ≡ Some b = sym h ∙ k in cc

fit_and_unfit : (test : List ℕ → Bool) (a b : List ℕ) → a ≡ b → test a ≡ true → test b ≡ false → ⊥
fit_and_unfit test a b same fit unfit = let both : test a ≡ test b = ap test same in cc

action_asks : (d : Data) (action : Action) → HasAction d action → (name : List ℕ) × HasText d (codes "do") name
    × ((name ≡ codes "read") ⊎ (name ≡ codes "write"))
action_asks d Read (reads here) = (codes "read", here, inl refl)
action_asks d (Write _) (writes value here h) = (codes "write", here, inr refl)

short_value : (d : Data) (action : Action) → HasAction d action → HasText d (codes "do") (codes "write") → (value : List ℕ)
    × HasText d (codes "value") value × (is_value value ≡ true)
short_value d Read (reads here) w = absurd (two_texts d (codes "do") (codes "read") (codes "write") here w refl)
short_value d (Write _) (writes value here h) w = (value, h.text, h.short)

invoke_complete : (d : Data) (op : OpId) (client : ℕ) (key : List ℕ) (action : Action) → SaysInvoke d op client key action
    → LacksInvokeMember d → ⊥
invoke_complete d op client key action s h =
    let name = action_asks d action s.asks in
    invoke_has d op.0 client key name.0 (record { op = s.call.call; who = s.caller; subject = s.subject; asks = name.1 })
    (valued d action s.asks) h

invoke_within : (d : Data) (op : OpId) (client : ℕ) (key : List ℕ) (action : Action) → SaysInvoke d op client key action
    → IsInvokeOutOfRange d → ⊥
invoke_within d op client key action s (great_call_begun g) =
    omega (arith, s.call.range, one_number d (codes "call") op.0 g.0 s.call.call g.1, g.2)
invoke_within d op client key action s (client_zero h) = omega (arith, s.least, one_number d (codes "client") client 0 s.caller h)
invoke_within d op client key action s (great_client n h g) = omega (arith, s.most, one_number d (codes "client") client n s.caller h, g)
invoke_within d op client key action s (bad_key b) =
    fit_and_unfit is_key key b.0 (one_text d (codes "key") key b.0 s.subject b.1) s.named b.2
invoke_within d op client key action s (other_action name h no_read no_write) =
    let asked = action_asks d action s.asks in
    let same = one_text d (codes "do") name asked.0 h asked.1 in
    elim asked.2 [ inl e ↦ no_read (same ∙ e) | inr e ↦ no_write (same ∙ e) ]
invoke_within d op client key action s (long_value w l) =
    let v = short_value d action s.asks w in
    fit_and_unfit is_value v.0 l.0 (one_text d (codes "value") v.0 l.0 v.1 l.1) v.2 l.2

note_within : (d : Data) (op : OpId) (tag : Tag) → SaysNote d op tag → IsNoteOutOfRange d → ⊥
note_within d op tag s (great_call_noted g) = omega (arith, s.call.range, one_number d (codes "call") op.0 g.0 s.call.call g.1, g.2)
note_within d op tag s (great_number n h g) = omega (arith, s.few, one_number d (codes "number") tag.number n s.number h, g)
note_within d op tag s (great_writer n h g) = omega (arith, s.named, one_number d (codes "writer") tag.writer n s.writer h, g)

-- an answer's value is short, where there is one
answer_short : (d : Data) (returned : Returned) → HasAnswer d returned → (text : List ℕ) → HasText d (codes "value") text → is_value text
    ≡ false → ⊥
answer_short d Written (written here) text h long = let none : text_at (codes "value") d ≡ None = rw here refl in cc
answer_short d (Value None) (answered_null here) text h long = let none : text_at (codes "value") d ≡ None = rw here refl in cc
answer_short d (Value (Some _)) (answered value v) text h long =
    fit_and_unfit is_value value text (one_text d (codes "value") value text v.text h) v.short long

respond_within : (d : Data) (op : OpId) (returned : Returned) → SaysRespond d op returned → IsRespondOutOfRange d → ⊥
respond_within d op returned s (great_call_answered g) =
    omega (arith, s.call.range, one_number d (codes "call") op.0 g.0 s.call.call g.1, g.2)
respond_within d op returned s (long_answer l) = answer_short d returned s.answers l.0 l.1 l.2

pub row_complete : (d : Data) (row : Row) → SaysRow d row → LacksRowMember d → ⊥
row_complete d (Invoke op client key action) s h = invoke_complete d op client key action s (of_invoke_alone d s.kind h)
row_complete d (Note op tag) s h = note_has d op.0 tag.number tag.writer s.call.call s.number s.writer (of_note_alone d s.kind h)
row_complete d (Respond op returned) s h = respond_has d op.0 s.call.call (answered_fits d returned s.answers) (of_respond_alone d s.kind h)

invoke_row_within : (d : Data) (op : OpId) (client : ℕ) (key : List ℕ) (action : Action) → SaysInvoke d op client key action
    → IsRowOutOfRange d → ⊥
invoke_row_within d op client key action s (other_row kind h no_invoke no_note no_respond) =
    no_invoke (one_text d (codes "row") kind (codes "invoke") h s.kind)
invoke_row_within d op client key action s (out_of_invoke k h) = invoke_within d op client key action s h
invoke_row_within d op client key action s (out_of_note k h) = two_texts d (codes "row") (codes "invoke") (codes "note") s.kind k refl
invoke_row_within d op client key action s (out_of_respond k h) = two_texts d (codes "row") (codes "invoke") (codes "respond") s.kind k refl

note_row_within : (d : Data) (op : OpId) (tag : Tag) → SaysNote d op tag → IsRowOutOfRange d → ⊥
note_row_within d op tag s (other_row kind h no_invoke no_note no_respond) = no_note (one_text d (codes "row") kind (codes "note") h s.kind)
note_row_within d op tag s (out_of_invoke k h) = two_texts d (codes "row") (codes "note") (codes "invoke") s.kind k refl
note_row_within d op tag s (out_of_note k h) = note_within d op tag s h
note_row_within d op tag s (out_of_respond k h) = two_texts d (codes "row") (codes "note") (codes "respond") s.kind k refl

respond_row_within : (d : Data) (op : OpId) (returned : Returned) → SaysRespond d op returned → IsRowOutOfRange d → ⊥
respond_row_within d op returned s (other_row kind h no_invoke no_note no_respond) =
    no_respond (one_text d (codes "row") kind (codes "respond") h s.kind)
respond_row_within d op returned s (out_of_invoke k h) = two_texts d (codes "row") (codes "respond") (codes "invoke") s.kind k refl
respond_row_within d op returned s (out_of_note k h) = two_texts d (codes "row") (codes "respond") (codes "note") s.kind k refl
respond_row_within d op returned s (out_of_respond k h) = respond_within d op returned s h

pub row_within : (d : Data) (row : Row) → SaysRow d row → IsRowOutOfRange d → ⊥
row_within d (Invoke op client key action) s h = invoke_row_within d op client key action s h
row_within d (Note op tag) s h = note_row_within d op tag s h
row_within d (Respond op returned) s h = respond_row_within d op returned s h

-- the fault that is told is the one that the value has
pub row_fault : (d : Data) (fault : LineFault) → (row_in d ≡ Err fault) ↔ HasRowFault d fault
row_fault d fault =
    decided (LacksRowMember d) (IsRowOutOfRange d) (row_in d) fault (row_told d) (λ row e.
    let s = row_back d row e in (row_complete d row s, row_within d row s))

-- ---- lines of order files

piece_has : (d : Data) (key numbers : _) → HasText d (codes "key") key → numbers_at (codes "order") d ≡ Some numbers → LacksPieceMember d
    → ⊥
piece_has d key numbers k n (no_subject h) = h key k
piece_has d key numbers k n (no_order h) = h numbers n

great_one : (numbers : List ℕ) → list_all (λ n. nat_lt n (2 ^ 32)) numbers ≡ false → (place : ℕ) × (call : ℕ)
    × (slice_get numbers place ≡ Some call) × (2 ^ 32 ≤ call)
great_one [] e = absurd (cc)
great_one (n ∷ numbers) e =
    elim (and_cases (nat_lt n (2 ^ 32)) (list_all (λ m. nat_lt m (2 ^ 32)) numbers) e) [
      | inl h ↦ (0, n, refl, ltb-false n (2 ^ 32) h)
      | inr h ↦ let g = great_one numbers h in (suc g.0, g.1, g.2, g.3)
    ]

piece_told : (d : Data) → Told (LacksPieceMember d) (IsPieceOutOfRange d) (piece_in d)
unfolding piece_in
piece_told d =
    let L = LacksPieceMember d in
    let O = IsPieceOutOfRange d in
    need L O (text_at (codes "key") d) _ (λ lacks. no_subject lacks) (λ text t.
    need L O (numbers_at (codes "order") d) _ (λ lacks. no_order lacks) (λ numbers n.
    let all : LacksPieceMember d → ⊥ = piece_has d text numbers t n in
    range L O (is_key text) text _ (λ out. (all, bad_subject (text, t, out))) (
    range L O (list_all (λ m. nat_lt m (2 ^ 32)) numbers) _ _ (λ out.
    let g = great_one numbers out in (all, great_call numbers g.0 g.1 n g.2 g.3)) tt)))

op_there : (ops : List OpId) (place call : ℕ) → slice_get (map (λ (op : OpId). op.0) ops) place ≡ Some call → (op : OpId)
    × (slice_get ops place ≡ Some op) × (op.0 ≡ call)
op_there [] place call e = absurd (cc)
op_there (op ∷ ops) zero call e = (op, refl, cc)
op_there (op ∷ ops) (suc place) call e = op_there ops place call e

piece_within : (d : Data) (piece : KeyOrder) → SaysPiece d piece → IsPieceOutOfRange d → ⊥
piece_within d piece s (bad_subject b) =
    fit_and_unfit is_key piece.key b.0 (one_text d (codes "key") piece.key b.0 s.subject b.1) s.named b.2
piece_within d piece s (great_call numbers place call h e g) =
    let whole : Some numbers ≡ Some (map (λ (op : OpId). op.0) piece.order) = sym h ∙ s.order in
    let same : numbers ≡ map (λ (op : OpId). op.0) piece.order = cc in
    let op = op_there piece.order place call (sym (ap (λ (l : List ℕ). slice_get l place) same) ∙ e) in
    omega (arith, s.range place op.0 op.1, op.2, g)

pub piece_fault : (d : Data) (fault : LineFault) → (piece_in d ≡ Err fault) ↔ HasPieceFault d fault
piece_fault d fault =
    decided (LacksPieceMember d) (IsPieceOutOfRange d) (piece_in d) fault (piece_told d) (λ piece e.
    let s = piece_back d piece e in (piece_has d piece.key _ s.subject s.order, piece_within d piece s))

-- ---- headers

-- a header without a fault, or with its one
abbrev Headed : List ℕ → Data → Result (Unit {0}) LineFault → Type 0
Headed name d (Ok done) = SaysHeader name d
Headed name d (Err fault) = HasHeaderFault name d fault

headed : (name : List ℕ) (d : Data) (abd : Option (List ℕ)) (version : Option ℕ) → text_at (codes "abd") d ≡ abd
    → number_at (codes "version") d ≡ version → Headed name d (header_of name abd version)
unfolding header_of
headed name d None version here there = λ h. cc
headed name d (Some abd) None here there = by (bytes_eq abd name) refl
  where
    by : (b : Bool) → bytes_eq abd name ≡ b → Headed name d (cond b (Err Version) (Err NoHeader))
    by true e = (here ∙ equal_to abd name e, λ h. cc)
    by false e = λ h. two_texts d (codes "abd") abd name here h e
headed name d (Some abd) (Some version) here there = by (bytes_eq abd name) (version == 1) refl refl
  where
    by : (b c : Bool) → bytes_eq abd name ≡ b → (version == 1) ≡ c
        → Headed name d (cond b (cond c (Ok (tt {0})) (Err Version)) (Err NoHeader))
    by true true e f = record { abd = here ∙ equal_to abd name e; version = there ∙ ap Some (eqb-true version 1 f) }
    by true false e f = (
      here ∙ equal_to abd name e,
      λ h. let one : version ≡ 1 = one_number d (codes "version") version 1 there h in
          let yes : (version == 1) ≡ true = ap (λ n. n == 1) one in cc,
    )
    by false c e f = λ h. two_texts d (codes "abd") abd name here h e

header_which : (name : List ℕ) (d : Data) (f : LineFault) → HasHeaderFault name d f
    → ((f ≡ NoHeader) × (HasText d (codes "abd") name → ⊥))
    ⊎ ((f ≡ Version) × HasText d (codes "abd") name × (HasNumber d (codes "version") 1 → ⊥))
header_which name d NoHeader h = inl (refl, h)
header_which name d Version h = inr (refl, h.0, h.1)
header_which name d _ h = absurd h

header_one : (name : List ℕ) (d : Data) (f g : LineFault) → HasHeaderFault name d f → HasHeaderFault name d g → f ≡ g
header_one name d f g h k =
    elim (header_which name d f h) [
      | inl a ↦ elim (header_which name d g k) [ inl b ↦ a.0 ∙ sym b.0 | inr b ↦ absurd (a.1 b.1) ]
      | inr a ↦ elim (header_which name d g k) [ inl b ↦ absurd (b.1 a.1) | inr b ↦ a.0 ∙ sym b.0 ]
    ]

header_decided : (name : List ℕ) (d : Data) (r : Result (Unit {0}) LineFault) (f : LineFault) → Headed name d r → (r ≡ Err f)
    ↔ HasHeaderFault name d f
header_decided name d (Ok done) f s =
    (λ e. cc, λ h. elim (header_which name d f h) [ inl a ↦ absurd (a.1 s.abd) | inr a ↦ absurd (a.2 s.version) ])
header_decided name d (Err g) f t =
    let P : LineFault → Type 0 = λ x. HasHeaderFault name d x in
    (λ e. let same : g ≡ f = cc in subst P same t, λ h. ap (λ (x : LineFault). Err x) (header_one name d g f t h))

pub header_fault : (name : List ℕ) (d : Data) (fault : LineFault) → (header_in name d ≡ Err fault) ↔ HasHeaderFault name d fault
unfolding header_in
header_fault name d fault = header_decided name d (header_in name d) fault
    (headed name d (text_at (codes "abd") d) (number_at (codes "version") d) refl refl)
