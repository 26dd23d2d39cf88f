-- What is made of a history's keys.
use Rattle.std.proofs.Common.{ℕ, zero, suc, ◌≡◌, ◌≤◌, List, [], ◌∷◌, length, refl, sym, ap, ◌∙◌, arith}
use Rattle.std.specs.Prelude.{◌==◌}
use Rattle.std.proofs.Math.Dec.{eqb-suc-zero}
use Rattle.recorder.specs.Halls.{RecordedHalls}
use Rattle.counted_devices.specs.DeviceStates.{DeviceStates}
use Rattle.file_format.specs.Texts.{orders_text}
use Rattle.cli.specs.Justifications.{KeyPart, OfFile, OfHalls}
use Rattle.cli.specs.Readings.{ReadsHistories}
use Rattle.cli.specs.TagOrders.{AreMade, OrdersKeys, Tagged, left_out_count, left_out_text}
use Rattle.cli.specs.Outcomes.{found_of}
use Rattle.cli.specs.declared.outcome.Found.{Found}
use Rattle.cli.specs.declared.outcome.Outcome.{Outcome}
use Rattle.cli.specs.declared.tag_orders.TagOrders.{TagOrders}
use Rattle.cli.proofs.Tagging.{none_left_out, some_left_out}

no_length : {X : Type 0} (xs : List X) → length xs ≡ 0 → xs ≡ []
no_length [] none = refl
no_length (x ∷ xs) none = absurd (omega (arith, none))

same_test : (n m : ℕ) → (n ≡ 0 → m ≡ 0) → (1 ≤ n → 1 ≤ m) → (n == 0) ≡ (m == 0)
same_test zero m none some = sym (ap (λ (k : ℕ). k == 0) (none refl))
same_test (suc n) zero none some = absurd (omega (arith, some (omega arith)))
same_test (suc n) (suc m) none some = eqb-suc-zero n ∙ sym (eqb-suc-zero m)

-- no line is said if no key is left out, and else some
counted : (tagged : List Tagged) (n : ℕ) → n ≡ length (left_out_text tagged) → (n == 0) ≡ (left_out_count tagged == 0)
counted tagged n long = same_test n (left_out_count tagged)
    (λ none. none_left_out tagged (no_length (left_out_text tagged) (sym long ∙ none)))
    (λ some. some_left_out tagged (λ empty. absurd (omega (arith, some, long ∙ ap length empty))))

-- the tags' orders, and the lines of the keys that are left out
pub ordered_keys : (parts : List KeyPart) (made : TagOrders) → AreMade parts made → (f : Found) (text notes : List ℕ) → text ≡ orders_text made.orders.items → notes ≡ made.left_out.items
    → (n : ℕ) → n ≡ length made.left_out.items → f ≡ found_of (n == 0) → OrdersKeys parts f text notes
ordered_keys parts made are f text notes is lines n long good = record {
  tagged = are.tagged;
  are = are.are;
  is = good ∙ ap found_of (counted are.tagged n (long ∙ ap length are.lines));
  orders = is ∙ ap orders_text are.orders;
  lines = lines ∙ are.lines;
}

-- the file's histories are those of which that is made
pub of_file : (Makes : List KeyPart → Found → List ℕ → List ℕ → Type 0) (history : DeviceStates) (histories : RecordedHalls) → ReadsHistories history histories → (outcome : Outcome) → OfHalls Makes histories.halls outcome → OfFile Makes history outcome
of_file Makes history histories read outcome makes = record { histories = histories; read = read; makes = makes }
