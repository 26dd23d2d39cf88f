-- No row was taken.
use Rattle.std.proofs.Common.{ℕ, ◌≡◌, List, [], Some, length, replicate, sym, ap, ◌∙◌, subst, arith}
use Rattle.std.specs.List.{slice_get}
use Rattle.std.proofs.lemmas.List.{length-replicate, get_or-replicate}
use Rattle.std.proofs.lemmas.Option.{get_or_from_slice_get, slice_get_within}
use Rattle.tag.specs.declared.numbers.OpId.{OpId}
use Rattle.recorder.specs.Records.{AreFirstSeen}
use Rattle.open_calls.specs.Open.{Open}
use Rattle.open_calls.specs.Rows.{KeepsOpen}
use Rattle.split_rows.specs.declared.moved.Moved.{Moved}
use Rattle.split_rows.specs.Pieces.{all_empty, ArePieces, IsKeyOf, IsPiece}
use Rattle.split_rows.specs.Taken.{AreCounts, AreMoved}
use Rattle.split_rows.proofs.FirstSeen.{AreFirstSeen-none}

none_stands : {X A : Type 0} (k : ℕ) (x : X) → slice_get [] k ≡ Some x → A
none_stands k x at = absurd (omega (arith, slice_get_within [] k x at))

pub no_piece : (mine : List ℕ → Type 0) → IsPiece [] mine (λ op. op) []
no_piece mine = record {
  place = λ k. k;
  each = λ k row at. none_stands k row at;
  all = λ at row stands of. none_stands at row stands;
  rises = λ j k less within. absurd (omega (arith, within));
  anew = λ k op client key action at. none_stands k _ at;
}

pub no_pieces : (parts : ℕ) (keys : List (List ℕ)) → keys ≡ [] → ArePieces parts [] keys (λ op. op) all_empty
no_pieces parts keys none = record {
  seen = subst (AreFirstSeen []) (sym none) AreFirstSeen-none;
  each = λ p. no_piece (IsKeyOf parts keys p);
}

pub none_moved : (parts : ℕ) (keys : List (List ℕ)) (number : OpId → OpId) (calls : Open Moved) → KeepsOpen [] calls
    → AreMoved parts [] keys number calls
none_moved parts keys number calls opens op call at = absurd (let h = (opens.each op call at).pending.invoked in omega (arith, h.1))

zeros : (n k here : ℕ) → slice_get (replicate n 0) k ≡ Some here → here ≡ 0
zeros n k here at =
    let within = slice_get_within (replicate n 0) k here at in
    sym (get_or_from_slice_get (replicate n 0) k here 0 at) ∙ get_or-replicate n k 0 0 (omega (arith, within, length-replicate {A = ℕ} n 0))

pub no_counts : (parts : ℕ) (counts : List ℕ) → counts ≡ replicate parts 0 → AreCounts parts [] all_empty counts
no_counts parts counts is = record {
  one = ap length is ∙ length-replicate {A = ℕ} parts 0;
  each = λ p n at. zeros parts p n (ap (λ (l : List ℕ). slice_get l p) (sym is) ∙ at);
  few = λ p n at. omega (arith, zeros parts p n (ap (λ (l : List ℕ). slice_get l p) (sym is) ∙ at));
}
