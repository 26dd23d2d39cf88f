-- What is said step by step, up to the first fault, and how what a function returned is that.
use Rattle.std.specs.Prelude.{◌≡◌, Result, Ok, Err}
use Rattle.counted_devices.specs.declared.read_fault.Stop.{Stop}
use Rattle.counted_devices.specs.declared.read_fault.Stop.TheVariants as stop

-- the first fault of two steps, or what the second makes of the first
infixl 10 ◌>>=◌
abbrev pub ◌>>=◌ : {A B L : Type 0} → Result A L → (A → Result B L) → Result B L
(Ok x) >>= f = f x
(Err e) >>= f = Err e

-- a function that stopped has the fault that is said, unless memory ran out
abbrev pub Fails : {L Y : Type 0} → Stop L → Result Y L → Type 0
Fails stop.Memory said = Unit {0}
Fails (stop.Fault fault) said = said ≡ Err fault

-- what a function returned, seen by `view`, is what is said, unless memory ran out
abbrev pub Gives : {L X Y : Type 0} → (X → Y) → Result X (Stop L) → Result Y L → Type 0
Gives view (Ok x) said = said ≡ Ok (view x)
Gives view (Err e) said = Fails e said
