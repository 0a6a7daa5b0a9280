-- How often a text assigns a bit. An assignment is told by its `<=`, which nothing else has, behind its target; it stands at the
-- first token of its target.
use Rattle.std.specs.Prelude.{◌≡◌, ℕ, ◌+◌, ◌<◌, nat_lt, bytes_eq, Bool, true, false, is_none, List, [], ◌∷◌, ◌++◌, length, filter, slice_index, Option, None, Some, Ok, Err, codes, if◌then◌else◌}
use Rattle.vlsi_base.specs.declared.name.Name.{Name}
use Rattle.vlsi_base.specs.declared.range.Range.{Range}
use Rattle.vlsi_base.specs.declared.entity.Entity.{Entity}
use Rattle.vlsi_base.specs.declared.entity.Mode.{Mode}
use Rattle.vlsi_base.specs.declared.entity.Mode.TheVariants as mode
use Rattle.vlsi_base.specs.declared.entity.PortGroup.{PortGroup}
use Rattle.vlsi_base.specs.declared.pragma.Pragma.{Pragma}
use Rattle.vhdl_token.specs.declared.token.Sign.TheVariants as sign
use Rattle.vhdl_token.specs.declared.token.PlacedToken.{PlacedToken}
use Rattle.grammar_theory.specs.declared.form.Form.TheVariants as form
use Rattle.grammar_theory.specs.declared.limits.TheConstants.{DEPTH, CHAIN}
use Rattle.grammar_theory.specs.Tokens.{is_at}
use Rattle.grammar_theory.specs.Outcome.{Outcome, start}
use Rattle.machine_core.specs.Named.{is_same_name}
use Rattle.source_checks.specs.declared.statement.Target.{Target}
use Rattle.source_checks.specs.declared.symbol_table.Role.TheVariants as role
use Rattle.source_checks.specs.declared.symbol_table.Symbol.{Symbol}
use Rattle.source_checks.specs.Symbols.{port_symbols, find, all_names}
use Rattle.source_checks.specs.Drivers.{is_among, target_names}
use Rattle.source_checks.specs.Formula.{place}
use Rattle.vbe_text.specs.VbeReading.{target_at}

-- the name in the first of these pragmas that has this key
abbrev pub named_by : List ℕ → List Pragma → Option (List ℕ)
named_by key [] = None
named_by key (p ∷ pragmas) = if bytes_eq p.key key then Some p.name else named_by key pragmas

-- the target that these tokens begin with, where `<=` stands behind it
abbrev pub assigned_here : List PlacedToken → Option Target
assigned_here tokens = by (target_at DEPTH (start tokens)) where
  by : Outcome Target → Option Target
  by (Ok x) = if is_at (form.Sign sign.Assign) x.1.rest then Some x.0 else None
  by (Err r) = None

abbrev pub is_out : PortGroup → Bool
is_out g = by g.mode where
  by : Mode → Bool
  by mode.Out = true
  by mode.In = false
  by mode.Inout = false

-- the next state, if it isn't one of these already
abbrev pub next_symbols : List Symbol → Option (List ℕ) → List Symbol
next_symbols known None = []
next_symbols known (Some text) =
    if is_none (find known text) then record { text = text; role = role.Inner; range = None; line = 0 } ∷ [] else []

-- what is counted: the outputs, and the next state of this name
abbrev pub counted_symbols : Entity → Option (List ℕ) → List Symbol
counted_symbols e next = let outputs = port_symbols (filter is_out e.ports) in outputs ++ next_symbols outputs next

-- the range in which a symbol is declared, where there is one
abbrev pub range_found : Option Symbol → Option Range
range_found None = None
range_found (Some s) = s.range

-- the bits of a target that are counted, from the left
abbrev pub counted_bits : List Symbol → Target → List Name
counted_bits known t = filter (is_among (all_names known)) (target_names known t)

-- how often a bit is one of these
abbrev pub times : Name → List Name → ℕ
times n [] = 0
times n (m ∷ before) = if is_same_name m n then times n before + 1 else times n before

-- what was assigned after these bits too, where these were assigned before; none where one of them was assigned as often as may be
abbrev pub taken : List Name → List Name → Option (List Name)
taken before [] = Some before
taken before (n ∷ more) = if nat_lt (times n before) CHAIN then taken (n ∷ before) more else None

-- behind an assignment of these bits, with so many tokens left at its first one
abbrev pub behind_bits : ℕ → (List Name → Option ℕ) → Option (List Name) → Option ℕ
behind_bits left go None = Some left
behind_bits left go (Some after) = go after

abbrev pub behind_target : ℕ → List Symbol → List Name → (List Name → Option ℕ) → Option Target → Option ℕ
behind_target left known before go None = go before
behind_target left known before go (Some x) = behind_bits left go (taken before (counted_bits known x))

-- how many tokens are left at the first assignment that is one more than a bit may have
abbrev pub overfull : List Symbol → List Name → List PlacedToken → Option ℕ
overfull known before [] = None
overfull known before (t ∷ ts) = behind_target (length (t ∷ ts)) known before (λ after. overfull known after ts) (assigned_here (t ∷ ts))

-- it stands before only so many tokens are left
abbrev pub passes_before : ℕ → Option ℕ → Bool
passes_before left None = false
passes_before left (Some place) = nat_lt left place

-- at its number, each counted bit has how often it was assigned
pub record IsTally (known : List Symbol) (counts : List ℕ) (before : List Name) : Type 0 where
  pub each : length counts ≡ length (all_names known)
  pub counted : (n : Name) → place (all_names known) n < length counts → slice_index counts (place (all_names known) n) ≡ times n before
