-- Orders that are gathered of one key more.
use Rattle.std.proofs.Common.{ℕ, ◌≡◌, ◌||◌, Bool, true, false, not, List, [], ◌∷◌, ◌++◌, append-nil, refl, sym, ap, ap₂, ◌∙◌}
use Rattle.std.specs.List.{flat_map, list_any}
use Rattle.std.proofs.lemmas.List.{map-append}
use Rattle.std.proofs.lemmas.List.Concat.{flat_map-append}
use Rattle.std.proofs.lemmas.List.Elements.{All-append, All-cons, All-nil}
use Rattle.std.proofs.lemmas.List.Folds.{list_any-append}
use Rattle.tag.specs.declared.numbers.OpId.{OpId}
use Rattle.value_order.specs.declared.decision.Decision.TheVariants as decision
use Rattle.value_order.specs.declared.decision.Doubt.{Doubt}
use Rattle.value_order.specs.declared.decision.ValueFault.{ValueFault}
use Rattle.parallel_keys.specs.CheckedKeys.{CheckedKey}
use Rattle.cli.specs.declared.outcome.Outcome.{Outcome}
use Rattle.judged_keys.specs.Findings.{is_refused, is_undecided}
use Rattle.judged_keys.specs.FoundOrders.{IsKeyDecision, finding_of}
use Rattle.judged_keys.specs.declared.finding.Finding.TheVariants as finding
use Rattle.justify_by_values.specs.Decided.{AreDecided, DecidedKey, line_in, order_in}
use Rattle.justify_by_values.specs.Gathered.{AreGathered, Gathers, LeavesOut}
use Rattle.justify_by_values.specs.OrdersByValues.{IsJustified, are_written, found_if, written_if}
use Rattle.justify_by_values.specs.declared.found_orders.FoundOrders.{FoundOrders}

pub decided_more : (keys more : List CheckedKey) (all : List DecidedKey) (key : DecidedKey) → more ≡ keys ++ key.one ∷ [] → IsKeyDecision key.one.part key.decided → AreDecided keys all → AreDecided more (all ++ key ∷ [])
decided_more keys more all key are_more found so_far =
    let Found = λ (k : DecidedKey). IsKeyDecision k.one.part k.decided in
    record {
      each_key = map-append (λ (k : DecidedKey). k.one) all (key ∷ []) ∙ ap (λ (l : List CheckedKey). l ++ key.one ∷ []) so_far.each_key ∙ sym are_more;
      found = All-append Found all (key ∷ []) so_far.found (All-cons Found key [] found (All-nil Found));
    }

-- what one key more adds to lists, and to a test of each
listed : {A : Type 0} (f : DecidedKey → List A) (all : List DecidedKey) (key : DecidedKey) (old new : List A) → old ≡ flat_map f all → new ≡ old ++ f key → new ≡ flat_map f (all ++ key ∷ [])
listed f all key old new were are =
    are ∙ ap₂ (λ (a b : List _). a ++ b) were (sym (append-nil (f key))) ∙ sym (flat_map-append f all (key ∷ []))

or_false : (b : Bool) → b ≡ (b || false)
or_false true = refl
or_false false = refl

tested : (test : DecidedKey → Bool) (all : List DecidedKey) (key : DecidedKey) (old new : Bool) → old ≡ list_any test all → new ≡ (old || test key) → new ≡ list_any test (all ++ key ∷ [])
tested test all key old new was is =
    is ∙ ap₂ (λ (a b : Bool). a || b) was (or_false (test key)) ∙ sym (list_any-append test all (key ∷ []))

pub gathered_more : (all : List DecidedKey) (key : DecidedKey) (old new : FoundOrders) → AreGathered all old → Gathers key.one.key key.decided old new → AreGathered (all ++ key ∷ []) new
gathered_more all key old new were adds = record {
  orders = listed (λ k. order_in k.one.key k.decided) all key old.orders.items new.orders.items were.orders adds.order;
  lines = listed (λ k. line_in k.one.key k.decided) all key old.left_out.items new.left_out.items were.lines adds.line;
  refused = tested (λ k. is_refused (finding_of k.decided)) all key old.refused new.refused were.refused adds.refused;
  undecided = tested (λ k. is_undecided (finding_of k.decided)) all key old.undecided new.undecided were.undecided adds.undecided;
}

-- the order of one key more
pub order_added : (key : List ℕ) (order : List OpId) (old new : FoundOrders) → new.orders.items ≡ old.orders.items ++ record { key = key; order = order } ∷ [] → new.left_out.items ≡ old.left_out.items → new.refused ≡ old.refused → new.undecided ≡ old.undecided
    → Gathers key (decision.Atomic order) old new
order_added key order old new added same refused undecided = record {
  order = added;
  line = same ∙ sym (append-nil old.left_out.items);
  refused = refused ∙ or_false old.refused;
  undecided = undecided ∙ or_false old.undecided;
}

-- the line of one key more
pub refused_left_out : (key : List ℕ) (fault : ValueFault) (old new : FoundOrders) → LeavesOut key (finding.ValueFault fault) old new → Gathers key (decision.NotAtomic fault) old new
refused_left_out key fault old new left = record {
  order = left.orders ∙ sym (append-nil old.orders.items);
  line = left.line;
  refused = left.refused;
  undecided = left.undecided;
}

pub undecided_left_out : (key : List ℕ) (doubt : Doubt) (old new : FoundOrders) → LeavesOut key (finding.Undecided doubt) old new → Gathers key (decision.Undecided doubt) old new
undecided_left_out key doubt old new left = record {
  order = left.orders ∙ sym (append-nil old.orders.items);
  line = left.line;
  refused = left.refused;
  undecided = left.undecided;
}

-- what is made of them
pub justified : (unchecked : Bool) (gathered : FoundOrders) (outcome : Outcome) → outcome.found ≡ found_if gathered.refused gathered.undecided → outcome.text.items ≡ written_if (unchecked || not (gathered.refused || gathered.undecided)) gathered.orders.items
    → outcome.notes.items ≡ gathered.left_out.items → (all : List DecidedKey) → AreGathered all gathered → IsJustified unchecked all outcome
justified unchecked gathered outcome is text notes all are = record {
  is = is ∙ ap₂ found_if are.refused are.undecided;
  text = text ∙ ap₂ (λ (r u : Bool). written_if (unchecked || not (r || u)) gathered.orders.items) are.refused are.undecided ∙ ap (written_if (are_written unchecked all)) are.orders;
  lines = notes ∙ are.lines;
}
