-- Registers by places and classes are the stages of a path, and the gates by numbers those of the definition.
use Rattle.std.proofs.Common.{◌≡◌, ℕ, suc, ◌+◌, ◌*◌, ◌<◌, Bool, true, false, nat_eq, if◌then◌else◌, List, [], ◌∷◌, ◌++◌, map, length, refl, ap, ◌∙◌, arith}
use Rattle.std.proofs.lemmas.Bool.{eqb-true}
use Rattle.std.proofs.lemmas.Option.{slice_get_within}
use Rattle.vlsi_base.specs.Member.{In, here, there}
use Rattle.cell_model.specs.Library.{Library}
use Rattle.net_core.specs.Places.{Stands}
use Rattle.net_core.specs.Netlist.{Netlist, IsNetlist, pin_of, terminals}
use Rattle.scan_theory.specs.Gates.{Gate as TheoryGate}
use Rattle.scan_theory.specs.Scan.{Cells, Stage, AreStages, ended, next, loads, gives, chain, gates, on_scin, on_test, shown, inverts, nands, gate_name}
use Rattle.scan_checks.specs.declared.registers.Register.{Register}
use Rattle.scan_checks.specs.Registers.{AreRegisters, none, more}
use Rattle.scapin.specs.declared.gates.Gate.{Gate}
use Rattle.scapin.specs.declared.gates.Gate.TheVariants as gate
use Rattle.scapin.specs.Gates.{gate_of, number_of, chain_of, gate_list}

-- a register is a stage, by the place of its data pin and by classes
pub record Matches (n : Netlist) (r : Register) (s : Stage) : Type 0 where
  pub place : Stands (terminals n) r.place (pin_of s.name s.load)
  pub loads : r.loads ≡ loads n s
  pub gives : r.gives ≡ gives n s

pub data AreMatched (n : Netlist) : List Register → List Stage → Type 0 where
  no_stage : AreMatched n [] []
  one_stage : {r : Register} {s : Stage} {rs : List Register} {stages : List Stage} → Matches n r s → AreMatched n rs stages → AreMatched n (r ∷ rs) (s ∷ stages)

-- the stages of the registers of a path
pub record IsStaged (n : Netlist) (l : Library) (path : List (List ℕ)) (rs : List Register) : Type 0 where
  pub stages : List Stage
  pub are : AreStages n l path stages
  pub matched : AreMatched n rs stages
  pub named : map (λ s. s.name) stages ≡ path

pub staged : (n : Netlist) (l : Library) (path : List (List ℕ)) (rs : List Register) → AreRegisters n l path rs → IsStaged n l path rs
staged n l _ _ none = record { stages = []; are = ended; matched = no_stage; named = refl }
staged n l _ _ (more {name = name} {r = r} {names = names} {rs = rs} one rest) =
    let later = staged n l names rs rest in
    record {
      stages = one.stage ∷ later.stages;
      are = next one.is later.are;
      matched = one_stage (record { place = one.place; loads = one.loads; gives = one.gives }) later.matched;
      named = ap (λ (x : List ℕ). x ∷ map (λ (s : Stage). s.name) later.stages) one.is.same ∙ ap (λ (xs : List (List ℕ)). name ∷ xs) later.named;
    }

pub as_many : (n : Netlist) (rs : List Register) (stages : List Stage) → AreMatched n rs stages → length rs ≡ length stages
as_many n _ _ no_stage = refl
as_many n _ _ (one_stage {rs = rs} {stages = stages} m rest) = ap suc (as_many n rs stages rest)

-- the place of a data pin is one of a terminal
pub places_low : (n : Netlist) → IsNetlist n → (rs : List Register) (stages : List Stage) → AreMatched n rs stages → (r : Register) → In r rs → r.place < length n.classes
places_low n sound _ _ no_stage r h = elim h [ ]
places_low n sound _ _ (one_stage {r = r} {s = s} m rest) _ here =
    let w = slice_get_within (terminals n) r.place (pin_of s.name s.load) m.place in let e = sound.each in omega (arith, w, e)
places_low n sound _ _ (one_stage {rs = rs} {stages = stages} m rest) r (there h) = places_low n sound rs stages rest r h

-- ---- gates

pub not_zero : (k : ℕ) → nat_eq (suc k) 0 ≡ false
not_zero k = by (nat_eq (suc k) 0) refl where
  by : (b : Bool) → nat_eq (suc k) 0 ≡ b → b ≡ false
  by true e = let none : suc k ≡ 0 = eqb-true (suc k) 0 e in absurd (omega (arith, none))
  by false e = refl

chain_are : (n : Netlist) (cells : Cells) (place before : ℕ) (rs : List Register) (stages : List Stage) → AreMatched n rs stages
    → map (gate_of n cells) (chain_of n.count place before rs) ≡ chain n cells place before stages
chain_are n cells place before _ _ no_stage = refl
chain_are n cells place before _ _ (one_stage {r = r} {s = s} {rs = rs} {stages = stages} m rest) =
    ap (λ (c : ℕ). nands n cells (3 * place + 1) (on_test n) before
    ∷ nands n cells (3 * place + 2) (shown n 0) c
    ∷ nands n cells (3 * place + 3) (shown n (3 * place + 1)) (shown n (3 * place + 2))
    ∷ map (gate_of n cells) (chain_of n.count (suc place) r.gives rs)) m.loads
    ∙ ap (λ (c : ℕ). nands n cells (3 * place + 1) (on_test n) before
    ∷ nands n cells (3 * place + 2) (shown n 0) (loads n s)
    ∷ nands n cells (3 * place + 3) (shown n (3 * place + 1)) (shown n (3 * place + 2))
    ∷ map (gate_of n cells) (chain_of n.count (suc place) c rs)) m.gives
    ∙ ap (λ (gs : List TheoryGate). nands n cells (3 * place + 1) (on_test n) before
    ∷ nands n cells (3 * place + 2) (shown n 0) (loads n s)
    ∷ nands n cells (3 * place + 3) (shown n (3 * place + 1)) (shown n (3 * place + 2))
    ∷ gs) (chain_are n cells (suc place) (gives n s) rs stages rest)

pub gates_are : (n : Netlist) (cells : Cells) (rs : List Register) (stages : List Stage) → AreMatched n rs stages
    → map (gate_of n cells) (gate_list n.count rs) ≡ gates n cells stages
gates_are n cells _ _ no_stage = refl
gates_are n cells _ _ (one_stage {r = r} {s = s} {rs = rs} {stages = stages} m rest) =
    ap (λ (b : Bool). map (gate_of n cells) ((if b then [] else gate.Inverts 0 (n.count + 1) ∷ []) ++ chain_of n.count 0 n.count (r ∷ rs))) (not_zero (length rs))
    ∙ ap (λ (gs : List TheoryGate). inverts n cells 0 (on_test n) ∷ gs) (chain_are n cells 0 (on_scin n) (r ∷ rs) (s ∷ stages) (one_stage m rest))

-- the name and the class of a gate go by its number
pub gate_named : (n : Netlist) (cells : Cells) (g : Gate) → (gate_of n cells g).name ≡ gate_name (number_of g)
gate_named n cells (gate.Inverts number input) = refl
gate_named n cells (gate.Nands number first second) = refl

pub gate_shows : (n : Netlist) (cells : Cells) (g : Gate) → (gate_of n cells g).shows ≡ shown n (number_of g)
gate_shows n cells (gate.Inverts number input) = refl
gate_shows n cells (gate.Nands number first second) = refl
