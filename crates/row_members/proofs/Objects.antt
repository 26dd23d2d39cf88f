-- An object whose members are scalars, from its lexemes to its value.
use Rattle.std.proofs.Common.{◌≡◌, ◌<◌, ◌∷◌, [], ℕ, zero, suc, List, length, Option, Some, option_and_then, refl, ap, ◌∙◌, arith}
use Rattle.std.specs.Prelude.{decimal, option_map}
use Rattle.json.specs.Lex.{Lexeme, token, comma, colon, lex, between, punctuate, fresh, after_value, tokens}
use Rattle.json.specs.Token.{Token, begin_object, end_object, key, string}
use Rattle.json.specs.Json as json
use Rattle.json.specs.Json.{value, members, parse_map, if_last}
use Rattle.serde_json.specs.Data.{Data, Members, no_members, object, number, put}
use Rattle.serde_json.specs.Read.{read, of_json, of_members, max_depth}
use Rattle.serde_json.proofs.Numbers.{number_of-decimal}
use Rattle.row_members.specs.Scalars.{Scalar, nothing, text, digits, token_of, data_of}

abbrev pub Pair : Type 0
Pair = List ℕ × Scalar

-- what stands after a member: further members, and the brace
abbrev pub tail : List Pair → List Lexeme
tail [] = token end_object ∷ []
tail (p ∷ ps) = comma ∷ token (string p.0) ∷ colon ∷ token (token_of p.1) ∷ tail ps

-- the members, put in one after another
abbrev pub puts : List Pair → Members → Members
puts [] found = found
puts (p ∷ ps) found = puts ps (put p.0 (data_of p.1) found)

abbrev tokens_of : List Pair → List Token
tokens_of [] = end_object ∷ []
tokens_of (p ∷ ps) = key p.0 ∷ token_of p.1 ∷ tokens_of ps

abbrev tree_of : Scalar → json.Json
tree_of nothing = json.null
tree_of (text s) = json.string s
tree_of (digits n fits) = json.number (decimal n)

abbrev trees_of : List Pair → json.Members
trees_of [] = json.no_members
trees_of (p ∷ ps) = json.member p.0 (tree_of p.1) (trees_of ps)

-- ---- commas and colons

after_colon : (s : Scalar) (ps : List Pair) → punctuate fresh (token (token_of s) ∷ tail ps) ≡ token_of s ∷ punctuate after_value (tail ps)
unfolding punctuate
after_colon nothing ps = refl
after_colon (text s) [] = refl
after_colon (text s) (p ∷ ps) = refl
after_colon (digits n fits) ps = refl

punctuated : (ps : List Pair) → punctuate after_value (tail ps) ≡ tokens_of ps
unfolding punctuate
punctuated [] = refl
punctuated (p ∷ ps) =
    ap (λ (l : List Token). key p.0 ∷ l)
    (after_colon p.1 ps ∙ ap (λ (l : List Token). token_of p.1 ∷ l) (punctuated ps))

first_member : (k : List ℕ) (s : Scalar) (ps : List Pair)
    → punctuate fresh (token begin_object ∷ token (string k) ∷ colon ∷ token (token_of s) ∷ tail ps)
    ≡ begin_object ∷ tokens_of ((k, s) ∷ ps)
unfolding punctuate
first_member k s ps =
    ap (λ (l : List Token). begin_object ∷ key k ∷ l)
    (after_colon s ps ∙ ap (λ (l : List Token). token_of s ∷ l) (punctuated ps))

-- ---- the tree

scalar_read : (depth : ℕ) (s : Scalar) (ts : List Token) → value depth (token_of s ∷ ts) ≡ Some (tree_of s, ts)
unfolding value
scalar_read zero nothing ts = refl
scalar_read zero (text s) ts = refl
scalar_read zero (digits n fits) ts = refl
scalar_read (suc depth) nothing ts = refl
scalar_read (suc depth) (text s) ts = refl
scalar_read (suc depth) (digits n fits) ts = refl

members_read : (depth n : ℕ) (ps : List Pair) → length ps < n → members (value depth) n (tokens_of ps) ≡ Some (trees_of ps, [])
unfolding members
members_read depth zero ps h = absurd (omega arith)
members_read depth (suc n) [] h = refl
members_read depth (suc n) (p ∷ ps) h =
    ap (option_and_then (λ q. parse_map (json.member p.0 q.0) (members (value depth) n q.1)))
    (scalar_read depth p.1 (tokens_of ps))
    ∙ ap (parse_map (json.member p.0 (tree_of p.1))) (members_read depth n ps (omega arith))

many : (ps : List Pair) → length ps < length (tokens_of ps)
many [] = omega arith
many (p ∷ ps) = omega (arith, many ps)

object_read : (depth : ℕ) (ps : List Pair) → value (suc depth) (begin_object ∷ tokens_of ps) ≡ Some (json.object (trees_of ps), [])
unfolding value
object_read depth ps = ap (parse_map json.object) (members_read depth (length (tokens_of ps)) ps (many ps))

-- ---- the value

scalar_value : (s : Scalar) → of_json (tree_of s) ≡ Some (data_of s)
scalar_value nothing = refl
scalar_value (text s) = refl
scalar_value (digits n fits) = ap (option_map number) (number_of-decimal n fits)

values : (ps : List Pair) (found : Members) → of_members (trees_of ps) found ≡ Some (puts ps found)
values [] found = refl
values (p ∷ ps) found =
    ap (option_and_then (λ (d : Data). of_members (trees_of ps) (put p.0 d found))) (scalar_value p.1)
    ∙ values ps (put p.0 (data_of p.1) found)

pub read_object : (line k : List ℕ) (s : Scalar) (ps : List Pair)
    → lex between line ≡ token begin_object ∷ token (string k) ∷ colon ∷ token (token_of s) ∷ tail ps
    → read line ≡ Some (object (puts ((k, s) ∷ ps) no_members))
read_object line k s ps lexed =
    let told : tokens line ≡ begin_object ∷ tokens_of ((k, s) ∷ ps) = ap (punctuate fresh) lexed ∙ first_member k s ps in
    ap (λ (ts : List Token). option_and_then of_json (option_and_then (λ p. if_last p.0 p.1) (value max_depth ts))) told
    ∙ ap (λ (o : Option (json.Json × List Token)). option_and_then of_json (option_and_then (λ p. if_last p.0 p.1) o))
    (object_read 126 ((k, s) ∷ ps))
    ∙ ap (option_map object) (values ((k, s) ∷ ps) no_members)
