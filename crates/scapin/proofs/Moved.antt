-- The data pins of registers in the classes of their multiplexers.
use Rattle.std.proofs.Common.{◌≡◌, ◌≢◌, ℕ, suc, zero, ◌+◌, ◌*◌, Bool, true, false, List, [], ◌∷◌, map, length, Some, refl, sym, ap, ◌∙◌, subst, arith, if◌then◌else◌}
use Rattle.std.specs.Prelude.{slice_set}
use Rattle.vlsi_base.specs.declared.name.Terminal.{Terminal}
use Rattle.vlsi_base.specs.Member.{In, here, there, AllDifferent}
use Rattle.cell_model.proofs.Members.{In-map}
use Rattle.cell_pins.proofs.Sound.{member_at}
use Rattle.net_core.specs.Places.{Stands}
use Rattle.net_core.specs.Netlist.{Netlist, IsNetlist, pin_of, terminals}
use Rattle.net_core.proofs.Finishing.{netlist_terminals_once}
use Rattle.loon_fanout.specs.Sinks.{is_same_terminal, class_among}
use Rattle.loon_fanout.proofs.Picking.{different_of}
use Rattle.loon_fanout.proofs.Terminals.{terminal_same, terminal_itself}
use Rattle.scan_theory.specs.Scan.{Stage, class_in, shown, fed}
use Rattle.scan_checks.specs.declared.registers.Register.{Register}
use Rattle.scapin.specs.Classes.{moved}
use Rattle.scapin.specs.Gates.{shown_by}
use Rattle.scapin.proofs.Staged.{AreMatched, no_stage, one_stage}

-- the pins that stages load are in the classes of their multiplexers, and others by a function
abbrev pub fed_by : ℕ → (Terminal → ℕ) → ℕ → List Stage → Terminal → ℕ
fed_by count f place [] t = f t
fed_by count f place (s ∷ stages) t = if is_same_terminal (pin_of s.name s.load) t then shown_by count (3 * place + 3) else fed_by count f (suc place) stages t

pub fed_is : (n : Netlist) (place : ℕ) (stages : List Stage) (t : Terminal) → fed_by n.count (class_in n) place stages t ≡ fed n place stages t
fed_is n place [] t = refl
fed_is n place (s ∷ stages) t =
    ap (λ (k : ℕ). if is_same_terminal (pin_of s.name s.load) t then shown n (3 * place + 3) else k) (fed_is n (suc place) stages t)

-- another function that gives the same class
fed_same : (count : ℕ) (f g : Terminal → ℕ) (place : ℕ) (stages : List Stage) (t : Terminal) → f t ≡ g t → fed_by count f place stages t ≡ fed_by count g place stages t
fed_same count f g place [] t e = e
fed_same count f g place (s ∷ stages) t e =
    ap (λ (k : ℕ). if is_same_terminal (pin_of s.name s.load) t then shown_by count (3 * place + 3) else k) (fed_same count f g (suc place) stages t e)

-- where no stage loads the pin
fed_none : (count : ℕ) (f : Terminal → ℕ) (place : ℕ) (stages : List Stage) (t : Terminal) → ((s : Stage) → In s stages → t ≡ pin_of s.name s.load → ⊥)
    → fed_by count f place stages t ≡ f t
fed_none count f place [] t apart = refl
fed_none count f place (s ∷ stages) t apart = by (is_same_terminal (pin_of s.name s.load) t) refl (fed_none count f (suc place) stages t (λ x h. apart x (there h))) where
  by : (b : Bool) → is_same_terminal (pin_of s.name s.load) t ≡ b → fed_by count f (suc place) stages t ≡ f t
      → (if b then shown_by count (3 * place + 3) else fed_by count f (suc place) stages t) ≡ f t
  by true e rest = absurd (apart s here (sym (terminal_same (pin_of s.name s.load) t e)))
  by false e rest = rest

-- ---- one class of a list replaced

apart_from : (u t : Terminal) → u ≢ t → is_same_terminal u t ≡ false
apart_from u t other = by (is_same_terminal u t) refl where
  by : (b : Bool) → is_same_terminal u t ≡ b → b ≡ false
  by true e = absurd (other (terminal_same u t e))
  by false e = refl

abbrev with_one : Terminal → ℕ → (Terminal → ℕ) → Terminal → ℕ
with_one u k f t = if is_same_terminal u t then k else f t

map_beside : (u : Terminal) (k : ℕ) (f : Terminal → ℕ) (ts : List Terminal) → (In u ts → ⊥) → map f ts ≡ map (with_one u k f) ts
map_beside u k f [] beside = refl
map_beside u k f (t ∷ ts) beside =
    ap (λ (j : ℕ). j ∷ map f ts)
    (sym (ap (λ (b : Bool). if b then k else f t) (apart_from u t (λ e. beside (subst (λ (x : Terminal). In u (x ∷ ts)) e here)))))
    ∙ ap (λ (js : List ℕ). with_one u k f t ∷ js) (map_beside u k f ts (λ h. beside (there h)))

set_one : (u : Terminal) (k : ℕ) (f : Terminal → ℕ) (ts : List Terminal) (place : ℕ) → AllDifferent ts → Stands ts place u
    → slice_set (map f ts) place k ≡ map (with_one u k f) ts
set_one u k f [] place d at = absurd cc
set_one u k f (t ∷ ts) zero d at =
    let same : t ≡ u = cc in
    ap (λ (js : List ℕ). k ∷ js) (map_beside u k f ts (subst (λ (x : Terminal). In x ts → ⊥) same d.0))
    ∙ ap (λ (j : ℕ). j ∷ map (with_one u k f) ts) (sym (ap (λ (b : Bool). if b then k else f t) (subst (λ (x : Terminal). is_same_terminal u x ≡ true) (sym same) (terminal_itself u))))
set_one u k f (t ∷ ts) (suc place) d at =
    ap (λ (j : ℕ). j ∷ slice_set (map f ts) place k)
    (sym (ap (λ (b : Bool). if b then k else f t) (apart_from u t (λ e. d.0 (subst (λ (x : Terminal). In x ts) e (member_at ts place u at))))))
    ∙ ap (λ (js : List ℕ). with_one u k f t ∷ js) (set_one u k f ts place d.1 at)

-- ---- all of them

map_by : (f g : Terminal → ℕ) (ts : List Terminal) → ((t : Terminal) → f t ≡ g t) → map f ts ≡ map g ts
map_by f g [] same = refl
map_by f g (t ∷ ts) same = ap (λ (j : ℕ). j ∷ map f ts) (same t) ∙ ap (λ (js : List ℕ). g t ∷ js) (map_by f g ts same)

module _ (count place : ℕ) (f : Terminal → ℕ) (s : Stage) (stages : List Stage) (apart : In s.name (map (λ (z : Stage). z.name) stages) → ⊥) where
  abbrev u : Terminal
  u = pin_of s.name s.load

  abbrev k : ℕ
  k = shown_by count (3 * place + 3)

  by_test : (t : Terminal) (b : Bool) → is_same_terminal u t ≡ b
      → fed_by count (with_one u k f) (suc place) stages t ≡ (if b then k else fed_by count f (suc place) stages t)
  by_test t true e =
      let same : u ≡ t = terminal_same u t e in
      fed_none count (with_one u k f) (suc place) stages t (λ x h at.
      let owners : Some s.name ≡ Some x.name = ap (λ (y : Terminal). y.instance) (same ∙ at) in
      let one : s.name ≡ x.name = cc in
      apart (subst (λ (y : List ℕ). In y (map (λ (z : Stage). z.name) stages)) (sym one) (In-map (λ (z : Stage). z.name) x stages h)))
      ∙ ap (λ (c : Bool). if c then k else f t) e
  by_test t false e = fed_same count (with_one u k f) f (suc place) stages t (ap (λ (c : Bool). if c then k else f t) e)

  one_moved : (t : Terminal) → fed_by count (with_one u k f) (suc place) stages t ≡ fed_by count f place (s ∷ stages) t
  one_moved t = by_test t (is_same_terminal u t) refl

pub moved_are : (n : Netlist) (count : ℕ) (ts : List Terminal) → AllDifferent ts → terminals n ≡ ts → (f : Terminal → ℕ) (place : ℕ) (rs : List Register) (stages : List Stage)
    → AreMatched n rs stages → AllDifferent (map (λ s. s.name) stages) → moved count place rs (map f ts) ≡ map (fed_by count f place stages) ts
moved_are n count ts d are f place _ _ no_stage names = refl
moved_are n count ts d are f place _ _ (one_stage {r = r} {s = s} {rs = rs} {stages = stages} m rest) names =
    ap (moved count (suc place) rs)
    (set_one (pin_of s.name s.load) (shown_by count (3 * place + 3)) f ts r.place d (subst (λ (us : List Terminal). Stands us r.place (pin_of s.name s.load)) are m.place))
    ∙ moved_are n count ts d are (with_one (pin_of s.name s.load) (shown_by count (3 * place + 3)) f) (suc place) rs stages rest names.1
    ∙ map_by (fed_by count (with_one (pin_of s.name s.load) (shown_by count (3 * place + 3)) f) (suc place) stages) (fed_by count f place (s ∷ stages)) ts
    (one_moved count place f s stages names.0)

-- ---- the classes of all terminals

map_among : (us : List Terminal) (ks : List ℕ) → AllDifferent us → length ks ≡ length us → ks ≡ map (class_among us ks) us
map_among [] [] d many = refl
map_among [] (k ∷ ks) d many = absurd (omega (arith, many))
map_among (u ∷ us) [] d many = absurd (omega (arith, many))
map_among (u ∷ us) (k ∷ ks) d many =
    ap (λ (js : List ℕ). k ∷ js) (map_among us ks d.1 (omega (arith, many)) ∙ map_beside u k (class_among us ks) us d.0)
    ∙ ap (λ (j : ℕ). j ∷ map (class_among (u ∷ us) (k ∷ ks)) us) (sym (ap (λ (b : Bool). if b then k else class_among us ks u) (terminal_itself u)))

pub classes_are : (n : Netlist) → IsNetlist n → n.classes ≡ map (class_in n) (terminals n)
classes_are n sound = map_among (terminals n) n.classes (different_of (terminals n) (netlist_terminals_once n sound)) sound.each

pub all_moved : (n : Netlist) → IsNetlist n → (rs : List Register) (stages : List Stage) → AreMatched n rs stages → AllDifferent (map (λ s. s.name) stages)
    → moved n.count 0 rs n.classes ≡ map (fed n 0 stages) (terminals n)
all_moved n sound rs stages matched names =
    ap (moved n.count 0 rs) (classes_are n sound)
    ∙ moved_are n n.count (terminals n) (different_of (terminals n) (netlist_terminals_once n sound)) refl (class_in n) 0 rs stages matched names
    ∙ map_by (fed_by n.count (class_in n) 0 stages) (fed n 0 stages) (terminals n) (fed_is n 0 stages)
