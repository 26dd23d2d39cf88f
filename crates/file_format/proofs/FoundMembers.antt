-- The members of a value, found in the tree that it was read from.
use Rattle.std.proofs.Common.{◌≡◌, ℕ, List, Bool, true, false, Option, Some, None, refl, sym, ap, ◌∙◌, subst, IsUtf8}
use Rattle.std.specs.Prelude.{is_some, unwrap_or, option_map, option_and_then}
use Rattle.std.proofs.lemmas.Bool.{true≢false}
use Rattle.json.specs.Json as json
use Rattle.json.specs.Find as tree
use Rattle.json.specs.Value.{value_view}
use Rattle.serde_json.specs.Data as values
use Rattle.serde_json.specs.Data.{Data}
use Rattle.serde_json.specs.Find as find
use Rattle.serde_json.specs.Find.{as_u64}
use Rattle.serde_json.specs.Read.{of_json, of_items, read}
use Rattle.file_format.specs.declared.document.Document.{Document}
use Rattle.row_members.specs.Values.{IsJson}
use Rattle.file_format.specs.Documents.{data_in}
use Rattle.file_format.specs.Members.{text_at, number_at, numbers_in, numbers_at}
use Rattle.file_format.specs.Members as members
use Rattle.file_format.specs.Trees.{tree_in, has_numbers, unsigned_of, all_unsigned}
use Rattle.file_format.proofs.Converting.{read_of, by_kind, IsFound, found_at, text_of, number_is}

-- what the tree is read as
abbrev pub value_in : json.Json → Data
value_in j = unwrap_or (of_json j) values.null

there : (o : Option Data) (b : Bool) → is_some o ≡ b → b ≡ true → o ≡ Some (unwrap_or o values.null)
there None true e t = absurd (cc)
there None false e t = absurd (cc)
there (Some d) b e t = refl

pub is_value : (j : json.Json) → has_numbers j ≡ true → of_json j ≡ Some (value_in j)
is_value j fits = there (of_json j) (has_numbers j) (read_of j) fits

gone : (o : Option Data) (b : Bool) → is_some o ≡ b → b ≡ false → o ≡ None
gone None b e f = refl
gone (Some d) true e f = absurd (cc)
gone (Some d) false e f = absurd (cc)

pub is_none : (j : json.Json) → has_numbers j ≡ false → of_json j ≡ None
is_none j unfit = gone (of_json j) (has_numbers j) (read_of j) unfit

-- ---- a line's value

pub json_line : (line : List ℕ) (j : json.Json) → IsUtf8 line → tree_in line ≡ Some j → has_numbers j ≡ true → IsJson line (value_in j)
json_line line j text here fits = (text, ap (option_and_then of_json) here ∙ is_value j fits)

none_some : (o : Option Data) (d : Data) → o ≡ None → o ≡ Some d → ⊥
none_some None d e f = cc
none_some (Some x) d e f = cc

pub no_tree : (line : List ℕ) → tree_in line ≡ None → (d : Data) → IsJson line d → ⊥
no_tree line none d h = none_some (read line) d (ap (option_and_then of_json) none) h.1

pub no_numbers : (line : List ℕ) (j : json.Json) → tree_in line ≡ Some j → has_numbers j ≡ false → (d : Data) → IsJson line d → ⊥
no_numbers line j here unfit d h = none_some (read line) d (ap (option_and_then of_json) here ∙ is_none j unfit) h.1

-- ---- its members

text_found : (o : Option json.Json) (p : Option Data) → IsFound o None p → option_and_then tree.as_str o ≡ option_and_then find.as_str p
unfolding IsFound
text_found None p h = ap (option_and_then find.as_str) (sym h)
text_found (Some j) p h = text_of j h.0 h.1 ∙ ap (option_and_then find.as_str) (sym h.2)

pub text_there : (name : List ℕ) (j : json.Json) → has_numbers j ≡ true → option_and_then tree.as_str (tree.get name j)
    ≡ text_at name (value_in j)
text_there name j fits = text_found (tree.get name j) (find.get name (value_in j)) (found_at j (value_in j) name (is_value j fits))

unsigned_is : (j : json.Json) (d : Data) → of_json j ≡ Some d → unsigned_of j ≡ members.number_of d
unsigned_is j d e = ap (option_and_then as_u64) (number_is j d e)

apart : (o : Option Data) → option_and_then members.number_of o ≡ option_and_then as_u64 (option_and_then find.as_number o)
apart None = refl
apart (Some d) = refl

number_found : (o : Option json.Json) (p : Option Data) → IsFound o None p → option_and_then unsigned_of o
    ≡ option_and_then members.number_of p
unfolding IsFound
number_found None p h = ap (option_and_then members.number_of) (sym h)
number_found (Some j) p h = unsigned_is j h.0 h.1 ∙ ap (option_and_then members.number_of) (sym h.2)

pub number_there : (name : List ℕ) (j : json.Json) → has_numbers j ≡ true → option_and_then unsigned_of (tree.get name j)
    ≡ number_at name (value_in j)
number_there name j fits = number_found (tree.get name j) (find.get name (value_in j)) (found_at j (value_in j) name (is_value j fits))
    ∙ apart (find.get name (value_in j))

-- the same of what was found in a document's tree
pub found_text : (document : Document) (name : List ℕ) (found : Option json.Json) → found ≡ tree.get name (value_view document.value)
    → option_and_then tree.as_str found ≡ text_at name (data_in document)
found_text document name found here =
    ap (option_and_then tree.as_str) here ∙ text_there name (value_view document.value) document.numbers

pub found_number : (document : Document) (name : List ℕ) (found : Option json.Json) → found ≡ tree.get name (value_view document.value)
    → option_and_then unsigned_of found ≡ number_at name (data_in document)
found_number document name found here =
    ap (option_and_then unsigned_of) here ∙ number_there name (value_view document.value) document.numbers

all_there : (js : json.Items) (out : values.Items) → of_items js ≡ Some out → all_unsigned js ≡ numbers_in out
all_there json.no_items out e = let same : values.no_items ≡ out = cc in ap numbers_in same
all_there (json.item j js) out e = step (of_json j) (of_items js) refl refl e (λ ds h. all_there js ds h)
  where
    step : (o : Option Data) (p : Option values.Items) → of_json j ≡ o → of_items js ≡ p
        → option_and_then (λ d. option_map (values.item d) p) o ≡ Some out
        → ((ds : values.Items) → of_items js ≡ Some ds → all_unsigned js ≡ numbers_in ds) → all_unsigned (json.item j js) ≡ numbers_in out
    step None p a b h more = absurd (cc)
    step (Some d) None a b h more = absurd (cc)
    step (Some d) (Some ds) a b h more =
        let same : values.item d ds ≡ out = cc in
        rw (unsigned_is j d a, more ds b) (ap numbers_in same)

array_is : (j : json.Json) (d : Data) → of_json j ≡ Some d → option_and_then all_unsigned (tree.as_array j)
    ≡ option_and_then numbers_in (find.as_array d)
array_is j d e =
    let P : json.Json → Data → Type 0 = λ i x.
    option_and_then all_unsigned (tree.as_array i) ≡ option_and_then numbers_in (find.as_array x) in
    by_kind P refl (λ b. refl) (λ s n h. refl) (λ s. refl) all_there (λ ms ns h. refl) j d e

numbers_found : (o : Option json.Json) (p : Option Data) → IsFound o None p
    → option_and_then all_unsigned (option_and_then tree.as_array o) ≡ option_and_then numbers_in (option_and_then find.as_array p)
unfolding IsFound
numbers_found None p h = ap (λ q. option_and_then numbers_in (option_and_then find.as_array q)) (sym h)
numbers_found (Some j) p h = array_is j h.0 h.1 ∙ ap (λ q. option_and_then numbers_in (option_and_then find.as_array q)) (sym h.2)

pub numbers_there : (name : List ℕ) (j : json.Json) → has_numbers j ≡ true
    → option_and_then all_unsigned (option_and_then tree.as_array (tree.get name j)) ≡ numbers_at name (value_in j)
numbers_there name j fits = numbers_found (tree.get name j) (find.get name (value_in j)) (found_at j (value_in j) name (is_value j fits))

-- the member itself
missing_found : (o : Option json.Json) (p : Option Data) → IsFound o None p → o ≡ None → p ≡ None
unfolding IsFound
missing_found None p h e = h
missing_found (Some j) p h e = absurd (cc)

pub missing_there : (name : List ℕ) (j : json.Json) → has_numbers j ≡ true → tree.get name j ≡ None → find.get name (value_in j) ≡ None
missing_there name j fits e =
    missing_found (tree.get name j) (find.get name (value_in j)) (found_at j (value_in j) name (is_value j fits)) e

some_found : (o : Option json.Json) (p : Option Data) (i : json.Json) → IsFound o None p → o ≡ Some i → (x : Data) × (of_json i ≡ Some x)
    × (p ≡ Some x)
unfolding IsFound
some_found None p i h e = absurd (cc)
some_found (Some j) p i h e = let same : j ≡ i = cc in (h.0, subst (λ y. of_json y ≡ Some h.0) same h.1, h.2)

some_there : (name : List ℕ) (j i : json.Json) → has_numbers j ≡ true → tree.get name j ≡ Some i → (x : Data) × (of_json i ≡ Some x)
    × (find.get name (value_in j) ≡ Some x)
some_there name j i fits e = some_found (tree.get name j) (find.get name (value_in j)) i (found_at j (value_in j) name (is_value j fits)) e

never : {X : Type 0} → false ≡ true → X
never h = absurd (true≢false (sym h))

null_is : (i : json.Json) (x : Data) → of_json i ≡ Some x → tree.is_null i ≡ true → x ≡ values.null
null_is i x e t =
    let P : json.Json → Data → Type 0 = λ j d. tree.is_null j ≡ true → d ≡ values.null in
    by_kind P (λ h. refl) (λ b. never) (λ s n is. never) (λ s. never) (λ js ds is. never) (λ ms ns is. never) i x e t

other_is : (i : json.Json) (x : Data) → of_json i ≡ Some x → tree.is_null i ≡ false → is_some (find.as_null x) ≡ false
other_is i x e t =
    let P : json.Json → Data → Type 0 = λ j d. tree.is_null j ≡ false → is_some (find.as_null d) ≡ false in
    by_kind P (λ h. absurd (true≢false h)) (λ b h. refl) (λ s n is h. refl) (λ s h. refl) (λ js ds is h. refl) (λ ms ns is h. refl) i x e t

text_is : (x : Data) (s : List ℕ) → find.as_str x ≡ Some s → x ≡ values.string s
text_is values.null s e = absurd (cc)
text_is (values.boolean b) s e = absurd (cc)
text_is (values.number n) s e = absurd (cc)
text_is (values.string t) s e = cc
text_is (values.array ds) s e = absurd (cc)
text_is (values.object ms) s e = absurd (cc)

pub null_there : (name : List ℕ) (j i : json.Json) → has_numbers j ≡ true → tree.get name j ≡ Some i → tree.is_null i ≡ true
    → find.get name (value_in j) ≡ Some values.null
null_there name j i fits e t = let f = some_there name j i fits e in f.2 ∙ ap Some (null_is i f.0 f.1 t)

pub string_there : (name : List ℕ) (j i : json.Json) (s : List ℕ) → has_numbers j ≡ true → tree.get name j ≡ Some i → tree.as_str i
    ≡ Some s → find.get name (value_in j) ≡ Some (values.string s)
string_there name j i s fits e t = let f = some_there name j i fits e in f.2 ∙ ap Some (text_is f.0 s (sym (text_of i f.0 f.1) ∙ t))

pub other_there : (name : List ℕ) (j i : json.Json) → has_numbers j ≡ true → tree.get name j ≡ Some i → tree.is_null i ≡ false
    → tree.as_str i ≡ None → (x : Data) × (find.get name (value_in j) ≡ Some x) × (is_some (find.as_null x) ≡ false)
    × (find.as_str x ≡ None)
other_there name j i fits e t n = let f = some_there name j i fits e in (f.0, f.2, other_is i f.0 f.1 t, sym (text_of i f.0 f.1) ∙ n)
