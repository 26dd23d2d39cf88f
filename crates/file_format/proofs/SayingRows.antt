-- What a value says as a row, member by member: the steps that read it, turned round.
use Rattle.std.proofs.Common.{ℕ, ◌≡◌, ◌≤◌, ◌<◌, ◌^◌, ◌⊎◌, ◌&&◌, inl, inr, List, Bool, true, false}
use Rattle.std.proofs.Common.{cond, Option, Some, None, Result, Ok, Err, codes, bytes_eq, is_some}
use Rattle.std.proofs.Common.{option_and_then, nat_lt, nat_le, refl, sym, ap, ◌∙◌, subst, arith}
use Rattle.std.specs.Cmp.Lexicographic.{bytes_decides}
use Rattle.std.proofs.lemmas.Bool.{ltb-true, lt-ltb, leb-true, le-leb, and_parts}
use Rattle.serde_json.specs.Data.{Data, null, boolean, number, string, array, object}
use Rattle.serde_json.specs.Find.{get, as_null, as_str}
use Rattle.tag.specs.declared.actions.Action.{Action}
use Rattle.tag.specs.declared.actions.Action.TheVariants.{Read, Write}
use Rattle.tag.specs.declared.actions.Returned.{Returned}
use Rattle.tag.specs.declared.actions.Returned.TheVariants.{Value, Written}
use Rattle.tag.specs.declared.numbers.OpId.{OpId}
use Rattle.tag.specs.Tags.{Tag}
use Rattle.tag.specs.Names.{is_key, is_value}
use Rattle.recorder.specs.declared.row.Row.{Row}
use Rattle.recorder.specs.declared.row.Row.TheVariants.{Invoke, Note, Respond}
use Rattle.file_format.specs.declared.fault.LineFault.{LineFault}
use Rattle.file_format.specs.declared.fault.LineFault.TheVariants.{Range}
use Rattle.counted_devices.specs.Answers.{◌>>=◌}
use Rattle.file_format.specs.Members.{needed_member, in_range, text_at, number_at, op_of, client_of, key_of, value_of, tag_of}
use Rattle.file_format.specs.Rows.{invocation_of, written_in, action_of, invoke_in, note_in}
use Rattle.file_format.specs.Rows.{answer_of, returned_of, respond_in, row_of, row_in}
use Rattle.file_format.specs.Says.{HasText, HasValue, HasCall, HasAction, reads, writes, HasAnswer}
use Rattle.file_format.specs.Says.{written, answered_null, answered, SaysRow}

pub after : {A B : Type 0} (r : Result A LineFault) (f : A → Result B LineFault) (y : B) → (r >>= f) ≡ Ok y → (x : A) × (r ≡ Ok x)
    × (f x ≡ Ok y)
after (Ok x) f y e = (x, refl, e)
after (Err fault) f y e = absurd (cc)

pub found : {X : Type 0} (o : Option X) (x : X) → needed_member o ≡ Ok x → o ≡ Some x
found None x e = absurd (cc)
found (Some y) x e = cc

pub within : {X : Type 0} (b : Bool) (x y : X) → in_range b x ≡ Ok y → (b ≡ true) × (x ≡ y)
within true x y e = (refl, cc)
within false x y e = absurd (cc)

one_of : {X : Type 0} (a b c : Bool) (x y z : Result X LineFault) (w : X) → cond a x (cond b y (cond c z (Err Range))) ≡ Ok w
    → ((a ≡ true) × (x ≡ Ok w)) ⊎ (((b ≡ true) × (y ≡ Ok w)) ⊎ ((c ≡ true) × (z ≡ Ok w)))
one_of true b c x y z w e = inl (refl, e)
one_of false true c x y z w e = inr (inl (refl, e))
one_of false false true x y z w e = inr (inr (refl, e))
one_of false false false x y z w e = absurd (cc)

either : {X : Type 0} (a b : Bool) (x y : Result X LineFault) (w : X) → cond a x (cond b y (Err Range)) ≡ Ok w
    → ((a ≡ true) × (x ≡ Ok w)) ⊎ ((b ≡ true) × (y ≡ Ok w))
either true b x y w e = inl (refl, e)
either false true x y w e = inr (refl, e)
either false false x y w e = absurd (cc)

abbrev pub done : {A : Type 0} → A → Result A LineFault
done x = Ok x

pub inside : {A : Type 0} (x y : A) → done x ≡ done y → x ≡ y
inside x y e = cc

-- forward: what was read is said by the members
op_back : (call : ℕ) (op : OpId) → op_of call ≡ Ok op → (op.0 ≡ call) × (op.0 < 2 ^ 32)
op_back call op e =
    let w = within (nat_lt call (2 ^ 32)) (record { 0 = call }) op e in
    let same : call ≡ op.0 = ap (λ (o : OpId). o.0) w.1 in
    (sym same, omega (arith, same, ltb-true call (2 ^ 32) w.0))

call_back : (d : Data) (call : ℕ) (op : OpId) → needed_member (number_at (codes "call") d) ≡ Ok call → op_of call ≡ Ok op → HasCall d op
call_back d call op here e =
    let w = op_back call op e in
    record { call = found (number_at (codes "call") d) call here ∙ ap Some (sym w.0); range = w.1 }

value_back : (d : Data) (text value : List ℕ) → text_at (codes "value") d ≡ Some text → value_of text ≡ Ok value → HasValue d value
value_back d text value here e =
    let w = within _ text value e in
    let P : List ℕ → Type 0 = λ t. HasValue d t in
    subst P w.1 (record { text = here; short = w.0 })

written_back : (d : Data) (action : Action) → written_in d ≡ Ok action → (value : List ℕ) × HasValue d value × (action ≡ Write value)
unfolding written_in
written_back d action e =
    let t = after (needed_member (text_at (codes "value") d)) _ action e in
    let v = after (value_of t.0) _ action t.2 in
    (v.0, value_back d t.0 v.0 (found (text_at (codes "value") d) t.0 t.1) v.1, sym (inside (Write v.0) action v.2))

pub action_back : (d : Data) (name : List ℕ) (action : Action) → text_at (codes "do") d ≡ Some name → action_of name d ≡ Ok action
    → HasAction d action
unfolding action_of
action_back d name action here e =
    elim (either (bytes_eq name (codes "read")) (bytes_eq name (codes "write")) (Ok Read) (written_in d) action e) [
      | inl w ↦
          let P : Action → Type 0 = λ a. HasAction d a in
          subst P (inside Read action w.1) (reads (here ∙ ap Some ((bytes_decides name (codes "read")).0 w.0)))
      | inr w ↦
          let v = written_back d action w.1 in
          let P : Action → Type 0 = λ a. HasAction d a in
          subst P (sym v.2) (writes v.0 (here ∙ ap Some ((bytes_decides name (codes "write")).0 w.0)) v.1)
    ]

client_back : (given client : ℕ) → client_of given ≡ Ok client → (given ≡ client) × (1 ≤ client) × (client ≤ 65535)
client_back given client e =
    let w = within (nat_le 1 given && nat_le given 65535) given client e in
    let b = and_parts (nat_le 1 given) (nat_le given 65535) w.0 in
    (w.1, omega (arith, w.1, leb-true 1 given b.0), omega (arith, w.1, leb-true given 65535 b.1))

invoke_back : (d : Data) (row : Row) → HasText d (codes "row") (codes "invoke") → invoke_in d ≡ Ok row → SaysRow d row
unfolding invoke_in invocation_of
invoke_back d row kind e =
    let call = after (needed_member (number_at (codes "call") d)) _ row e in
    let client = after (needed_member (number_at (codes "client") d)) _ row call.2 in
    let key = after (needed_member (text_at (codes "key") d)) _ row client.2 in
    let name = after (needed_member (text_at (codes "do") d)) _ row key.2 in
    let action = after (action_of name.0 d) _ row name.2 in
    let op = after (op_of call.0) _ row action.2 in
    let who = after (client_of client.0) _ row op.2 in
    let text = after (key_of key.0) _ row who.2 in
    let w = client_back client.0 who.0 who.1 in
    let k = within _ key.0 text.0 text.1 in
    let P : Row → Type 0 = λ r. SaysRow d r in
    subst P (inside (Invoke op.0 who.0 text.0 action.0) row text.2) (record {
      kind = kind;
      call = call_back d call.0 op.0 call.1 op.1;
      caller = found (number_at (codes "client") d) client.0 client.1 ∙ ap Some w.0;
      least = w.1;
      most = w.2;
      subject = found (text_at (codes "key") d) key.0 key.1 ∙ ap Some k.1;
      named = subst (λ (t : List ℕ). is_key t ≡ true) k.1 k.0;
      asks = action_back d name.0 action.0 (found (text_at (codes "do") d) name.0 name.1) action.1;
    })

note_back : (d : Data) (row : Row) → HasText d (codes "row") (codes "note") → note_in d ≡ Ok row → SaysRow d row
unfolding note_in
note_back d row kind e =
    let call = after (needed_member (number_at (codes "call") d)) _ row e in
    let number = after (needed_member (number_at (codes "number") d)) _ row call.2 in
    let writer = after (needed_member (number_at (codes "writer") d)) _ row number.2 in
    let op = after (op_of call.0) _ row writer.2 in
    let tag = after (tag_of number.0 writer.0) _ row op.2 in
    let w = within _ (record { number = number.0; writer = writer.0 }) tag.0 tag.1 in
    let b = and_parts (nat_le number.0 1000000) (nat_le writer.0 65535) w.0 in
    let n : number.0 ≡ tag.0.number = ap (λ (t : Tag). t.number) w.1 in
    let v : writer.0 ≡ tag.0.writer = ap (λ (t : Tag). t.writer) w.1 in
    let P : Row → Type 0 = λ r. SaysRow d r in
    subst P (inside (Note op.0 tag.0) row tag.2) (record {
      kind = kind;
      call = call_back d call.0 op.0 call.1 op.1;
      number = found (number_at (codes "number") d) number.0 number.1 ∙ ap Some n;
      few = omega (arith, n, leb-true number.0 1000000 b.0);
      writer = found (number_at (codes "writer") d) writer.0 writer.1 ∙ ap Some v;
      named = omega (arith, v, leb-true writer.0 65535 b.1);
    })

text_of : (d : Data) (text : List ℕ) → as_str d ≡ Some text → d ≡ string text
text_of null text e = absurd (cc)
text_of (boolean b) text e = absurd (cc)
text_of (number n) text e = absurd (cc)
text_of (string s) text e = cc
text_of (array ds) text e = absurd (cc)
text_of (object ms) text e = absurd (cc)

null_of : (d : Data) → is_some (as_null d) ≡ true → d ≡ null
null_of null e = refl
null_of (boolean b) e = absurd (cc)
null_of (number n) e = absurd (cc)
null_of (string s) e = absurd (cc)
null_of (array ds) e = absurd (cc)
null_of (object ms) e = absurd (cc)

answer_back : (d : Data) (o : Option (List ℕ)) (returned : Returned) → text_at (codes "value") d ≡ o → answer_of o ≡ Ok returned
    → HasAnswer d returned
unfolding answer_of
answer_back d None returned here e = absurd (cc)
answer_back d (Some text) returned here e =
    let v = after (value_of text) _ returned e in
    let P : Returned → Type 0 = λ r. HasAnswer d r in
    subst P (inside (Value (Some v.0)) returned v.2) (answered v.0 (value_back d text v.0 here v.1))

returned_case : (d member : Data) (b : Bool) (returned : Returned) → get (codes "value") d ≡ Some member → is_some (as_null member) ≡ b
    → cond b (Ok (Value None)) (answer_of (as_str member)) ≡ Ok returned → HasAnswer d returned
returned_case d member true returned here test e =
    let P : Returned → Type 0 = λ r. HasAnswer d r in
    subst P (inside (Value None) returned e) (answered_null (here ∙ ap Some (null_of member test)))
returned_case d member false returned here test e = answer_back d (as_str member) returned (ap (option_and_then as_str) here) e

pub returned_back : (d : Data) (o : Option Data) (returned : Returned) → get (codes "value") d ≡ o → returned_of o ≡ Ok returned
    → HasAnswer d returned
unfolding returned_of
returned_back d None returned here e =
    let P : Returned → Type 0 = λ r. HasAnswer d r in
    subst P (inside Written returned e) (written here)
returned_back d (Some member) returned here e = returned_case d member (is_some (as_null member)) returned here refl e

respond_back : (d : Data) (row : Row) → HasText d (codes "row") (codes "respond") → respond_in d ≡ Ok row → SaysRow d row
unfolding respond_in
respond_back d row kind e =
    let call = after (needed_member (number_at (codes "call") d)) _ row e in
    let answer = after (returned_of (get (codes "value") d)) _ row call.2 in
    let op = after (op_of call.0) _ row answer.2 in
    let P : Row → Type 0 = λ r. SaysRow d r in
    subst P (inside (Respond op.0 answer.0) row op.2) (record {
      kind = kind;
      call = call_back d call.0 op.0 call.1 op.1;
      answers = returned_back d (get (codes "value") d) answer.0 refl answer.1;
    })

-- what was read is said by the members
pub row_back : (d : Data) (row : Row) → row_in d ≡ Ok row → SaysRow d row
unfolding row_in row_of
row_back d row e =
    let kind = after (needed_member (text_at (codes "row") d)) _ row e in
    let here : (name : List ℕ) → bytes_eq kind.0 name ≡ true → HasText d (codes "row") name =
    λ name equal. found (text_at (codes "row") d) kind.0 kind.1 ∙ ap Some ((bytes_decides kind.0 name).0 equal) in
    elim (one_of (bytes_eq kind.0 (codes "invoke")) (bytes_eq kind.0 (codes "note")) (bytes_eq kind.0 (codes "respond")) (invoke_in d)
    (note_in d) (respond_in d) row kind.2) [
      | inl w ↦ invoke_back d row (here (codes "invoke") w.0) w.1
      | inr other ↦ elim other [
        | inl w ↦ note_back d row (here (codes "note") w.0) w.1
        | inr w ↦
            respond_back d row (here (codes "respond") w.0) w.1
      ]
    ]

-- backward: what the members say is read
pub fits : {X : Type 0} (b : Bool) (x : X) → b ≡ true → in_range b x ≡ Ok x
fits true x e = refl
fits false x e = absurd (cc)

op_there : (op : OpId) → op.0 < 2 ^ 32 → op_of op.0 ≡ Ok op
op_there op range = fits (nat_lt op.0 (2 ^ 32)) op (lt-ltb op.0 (2 ^ 32) range)

client_there : (client : ℕ) → 1 ≤ client → client ≤ 65535 → client_of client ≡ Ok client
client_there client least most =
    fits (nat_le 1 client && nat_le client 65535) client (ap (λ (b : Bool). b && nat_le client 65535) (le-leb 1 client least)
    ∙ le-leb client 65535 most)

tag_there : (tag : Tag) → tag.number ≤ 1000000 → tag.writer ≤ 65535 → tag_of tag.number tag.writer ≡ Ok tag
tag_there tag few named = fits (nat_le tag.number 1000000 && nat_le tag.writer 65535) tag
    (ap (λ (b : Bool). b && nat_le tag.writer 65535) (le-leb tag.number 1000000 few) ∙ le-leb tag.writer 65535 named)

action_there : (d : Data) (action : Action) → HasAction d action → (name : List ℕ) × HasText d (codes "do") name
    × (action_of name d ≡ Ok action)
unfolding action_of written_in
action_there d Read (reads here) = (codes "read", here, refl)
action_there d (Write _) (writes value here v) = (codes "write", here, rw v.text (rw (fits (is_value value) value v.short) refl))

text_there : (o : Option Data) (value : List ℕ) → option_and_then as_str o ≡ Some value → is_value value ≡ true → returned_of o
    ≡ Ok (Value (Some value))
unfolding returned_of answer_of
text_there None value e short = absurd (cc)
text_there (Some null) value e short = absurd (cc)
text_there (Some (boolean b)) value e short = absurd (cc)
text_there (Some (number n)) value e short = absurd (cc)
text_there (Some (array ds)) value e short = absurd (cc)
text_there (Some (object ms)) value e short = absurd (cc)
text_there (Some (string s)) value e short = let same : s ≡ value = cc in rw same (rw (fits (is_value value) value short) refl)

answer_there : (d : Data) (returned : Returned) → HasAnswer d returned → returned_of (get (codes "value") d) ≡ Ok returned
unfolding returned_of answer_of
answer_there d Written (written here) = rw here refl
answer_there d (Value None) (answered_null here) = rw here refl
answer_there d (Value (Some _)) (answered value v) = text_there (get (codes "value") d) value v.text v.short

pub row_there : (d : Data) (row : Row) → SaysRow d row → row_in d ≡ Ok row
unfolding row_in row_of invoke_in invocation_of note_in respond_in
row_there d (Invoke op client key action) s =
    let does = action_there d action s.asks in
    rw s.kind (rw s.call.call (rw s.caller
    (rw s.subject (rw does.1 (rw does.2
    (rw (op_there op s.call.range) (rw (client_there client s.least s.most) (rw (fits (is_key key) key s.named) refl))))))))
row_there d (Note op tag) s =
    rw s.kind (rw s.call.call (rw s.number (rw s.writer (rw (op_there op s.call.range) (rw (tag_there tag s.few s.named) refl)))))
row_there d (Respond op returned) s =
    rw s.kind (rw s.call.call (rw (answer_there d returned s.answers) (rw (op_there op s.call.range) refl)))
