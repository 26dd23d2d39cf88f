-- What a value says as a header, or as a line of an order file: the steps that read it, turned round.
use Rattle.std.proofs.Common.{ℕ, zero, suc, ◌≡◌, ◌<◌, ◌^◌, ◌&&◌, List, [], ◌∷◌, Bool, true, false}
use Rattle.std.proofs.Common.{cond, Option, Some, None, Result, Ok, Err, codes, bytes_eq, nat_lt}
use Rattle.std.proofs.Common.{◌==◌, map, refl, sym, ap, ◌∙◌, subst, arith, eqb-true}
use Rattle.std.specs.List.{slice_get, list_all}
use Rattle.std.specs.Cmp.Lexicographic.{bytes_decides}
use Rattle.std.proofs.lemmas.Bool.{ltb-true, lt-ltb, and_parts}
use Rattle.serde_json.specs.Data.{Data}
use Rattle.tag.specs.declared.numbers.OpId.{OpId}
use Rattle.tag.specs.Names.{is_key}
use Rattle.recorder.specs.declared.order.KeyOrder.{KeyOrder}
use Rattle.file_format.specs.declared.fault.LineFault.{LineFault}
use Rattle.file_format.specs.Members.{needed_member, text_at, number_at, numbers_at, key_of}
use Rattle.file_format.specs.Headers.{header_of, header_in}
use Rattle.file_format.specs.OrderLines.{op_at, calls_of, piece_in}
use Rattle.file_format.specs.Says.{SaysHeader, SaysPiece}
use Rattle.file_format.proofs.SayingRows.{after, found, within, fits, done, inside}

numbers_back : (numbers : List ℕ) → map (λ (op : OpId). op.0) (map op_at numbers) ≡ numbers
numbers_back [] = refl
numbers_back (n ∷ numbers) = ap (λ (l : List ℕ). n ∷ l) (numbers_back numbers)

ops_back : (ops : List OpId) → map op_at (map (λ (op : OpId). op.0) ops) ≡ ops
ops_back [] = refl
ops_back (op ∷ ops) = ap (λ (l : List OpId). op ∷ l) (ops_back ops)

range_back : (numbers : List ℕ) → list_all (λ n. nat_lt n (2 ^ 32)) numbers ≡ true → (k : ℕ) (op : OpId)
    → slice_get (map op_at numbers) k ≡ Some op → op.0 < 2 ^ 32
range_back [] all k op e = absurd (cc)
range_back (n ∷ numbers) all zero op e =
    let b = and_parts (nat_lt n (2 ^ 32)) (list_all (λ m. nat_lt m (2 ^ 32)) numbers) all in
    let same : op_at n ≡ op = cc in
    omega (arith, ap (λ (o : OpId). o.0) same, ltb-true n (2 ^ 32) b.0)
range_back (n ∷ numbers) all (suc k) op e =
    range_back numbers (and_parts (nat_lt n (2 ^ 32)) (list_all (λ m. nat_lt m (2 ^ 32)) numbers) all).1 k op e

range_there : (ops : List OpId) → ((k : ℕ) (op : OpId) → slice_get ops k ≡ Some op → op.0 < 2 ^ 32)
    → list_all (λ n. nat_lt n (2 ^ 32)) (map (λ (op : OpId). op.0) ops) ≡ true
range_there [] range = refl
range_there (op ∷ ops) range =
    ap (λ (b : Bool). b && list_all (λ n. nat_lt n (2 ^ 32)) (map (λ (o : OpId). o.0) ops)) (lt-ltb op.0 (2 ^ 32) (range 0 op refl))
    ∙ range_there ops (λ k o e. range (suc k) o e)

pub piece_back : (d : Data) (piece : KeyOrder) → piece_in d ≡ Ok piece → SaysPiece d piece
unfolding piece_in
piece_back d piece e =
    let text = after (needed_member (text_at (codes "key") d)) _ piece e in
    let numbers = after (needed_member (numbers_at (codes "order") d)) _ piece text.2 in
    let key = after (key_of text.0) _ piece numbers.2 in
    let order = after (calls_of numbers.0) _ piece key.2 in
    let k = within _ text.0 key.0 key.1 in
    let o = within _ (map op_at numbers.0) order.0 order.1 in
    let P : KeyOrder → Type 0 = λ p. SaysPiece d p in
    let Range : List OpId → Type 0 = λ ops. (i : ℕ) (op : OpId) → slice_get ops i ≡ Some op → op.0 < 2 ^ 32 in
    subst P (inside (record { key = key.0; order = order.0 }) piece order.2) (record {
      subject = found (text_at (codes "key") d) text.0 text.1 ∙ ap Some k.1;
      named = subst (λ (t : List ℕ). is_key t ≡ true) k.1 k.0;
      order = found (numbers_at (codes "order") d) numbers.0 numbers.1
          ∙ ap Some (sym (numbers_back numbers.0) ∙ ap (map (λ (op : OpId). op.0)) o.1);
      range = subst Range o.1 (range_back numbers.0 o.0);
    })

calls_there : (ops : List OpId) → ((k : ℕ) (op : OpId) → slice_get ops k ≡ Some op → op.0 < 2 ^ 32)
    → calls_of (map (λ (op : OpId). op.0) ops) ≡ Ok ops
calls_there ops range = fits _ (map op_at (map (λ (op : OpId). op.0) ops)) (range_there ops range) ∙ ap done (ops_back ops)

pub piece_there : (d : Data) (piece : KeyOrder) → SaysPiece d piece → piece_in d ≡ Ok piece
unfolding piece_in
piece_there d piece s = rw s.subject
    (rw s.order (rw (fits (is_key piece.key) piece.key s.named) (rw (calls_there piece.order s.range) refl)))

abbrev nothing : Result (Unit {0}) LineFault
nothing = Ok (tt {0})

version_back : (b c : Bool) (f g : LineFault) → cond b (cond c nothing (Err f)) (Err g) ≡ nothing → (b ≡ true) × (c ≡ true)
version_back true true f g e = (refl, refl)
version_back true false f g e = absurd (cc)
version_back false c f g e = absurd (cc)

never : (b : Bool) (f g : LineFault) → cond b (Err f) (Err g) ≡ nothing → ⊥
never true f g e = cc
never false f g e = cc

header_back_of : (name : List ℕ) (d : Data) (abd : Option (List ℕ)) (version : Option ℕ) → text_at (codes "abd") d ≡ abd
    → number_at (codes "version") d ≡ version → header_of name abd version ≡ nothing → SaysHeader name d
unfolding header_of
header_back_of name d None version here there e = absurd (cc)
header_back_of name d (Some abd) None here there e = absurd (never (bytes_eq abd name) _ _ e)
header_back_of name d (Some abd) (Some version) here there e =
    let w = version_back (bytes_eq abd name) (version == 1) _ _ e in
    record { abd = here ∙ ap Some ((bytes_decides abd name).0 w.0); version = there ∙ ap Some (eqb-true version 1 w.1) }

pub header_back : (name : List ℕ) (d : Data) → header_in name d ≡ nothing → SaysHeader name d
unfolding header_in
header_back name d e = header_back_of name d (text_at (codes "abd") d) (number_at (codes "version") d) refl refl e

same_name : (b : Bool) (f : LineFault) → b ≡ true → cond b nothing (Err f) ≡ nothing
same_name true f e = refl
same_name false f e = absurd (cc)

pub header_there : (name : List ℕ) (d : Data) → SaysHeader name d → header_in name d ≡ nothing
unfolding header_in header_of
header_there name d s = rw s.abd (rw s.version (same_name (bytes_eq name name) _ ((bytes_decides name name).1 refl)))
