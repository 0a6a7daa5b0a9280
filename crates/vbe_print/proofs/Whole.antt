-- The text of a machine that is laid out spells itself.
use Rattle.std.proofs.Common.{◌≡◌, ℕ, suc, ◌-◌, ◌==◌, false, List, [], ◌∷◌, ◌++◌, map, Option, refl, sym, ap, ◌∙◌, append_assoc}
use Rattle.std.specs.List.{All}
use Rattle.std.proofs.lemmas.List.{append-nil}
use Rattle.vlsi_base.specs.declared.name.Name.{Name}
use Rattle.vlsi_base.specs.declared.entity.SignalGroup.{SignalGroup}
use Rattle.vlsi_base.specs.declared.entity.Declarations.{Declarations}
use Rattle.machine_core.specs.Machine.{Equation, Register}
use Rattle.vhdl_token.specs.declared.keyword.Keyword.TheVariants as word
use Rattle.vhdl_token.specs.declared.token.PlacedToken.{PlacedToken}
use Rattle.vhdl_token.specs.declared.token.Token.TheVariants as token
use Rattle.vhdl_token.specs.declared.token.Sign.TheVariants as sign
use Rattle.grammar_theory.specs.declared.form.Form.TheVariants as form
use Rattle.grammar_theory.specs.Tokens.{code_of}
use Rattle.grammar_theory.specs.Marks.{State, spells}
use Rattle.vhdl_front.specs.Cursor.{name_of}
use Rattle.vhdl_front.specs.Entity.{declarations}
use Rattle.vbe_text.specs.Source.{StatementTree, SourceTree}
use Rattle.vbe_text.specs.Vbe.{repeated, statements, belonging, architecture_head, architecture, source}
use Rattle.spell_theory.specs.Spells.{Spells}
use Rattle.spell_theory.specs.Layout.{Written, line_behind, placed, line_of}
use Rattle.spell_theory.proofs.Combinators.{spell_nothing, spell_lead, spell_then, spell_left, spell_as, spell_to}
use Rattle.spell_theory.proofs.Layouts.{placed_append}
use Rattle.vhdl_print.specs.Outline.{Outline, entity_layout, placed_entity}
use Rattle.vhdl_print.proofs.Entities.{at, spell_word, spell_sign, spell_identifier, spell_entity}
use Rattle.vhdl_print.proofs.Steps.{Few, spells_step}
use Rattle.vst_print.specs.Groups.{Group, declared as declared_as}
use Rattle.vst_print.specs.Structure.{signals_layout, begin_layout}
use Rattle.vst_print.proofs.Entries.{Entry, with_entries, EntriesNew, port_entry, signal_entry, new_front, new_back, ports_new, with_port_entries, few_entries}
use Rattle.vbe_print.specs.Written.{architecture_name, head_layout, groups_layout, equations_layout, storage_layout, last_layout}
use Rattle.vbe_print.specs.Placed.{placed_signals, placed_groups, placed_equations, placed_storage}
use Rattle.vbe_print.proofs.Declared.{spell_signals, spell_groups}
use Rattle.vbe_print.proofs.Statements.{Counted, Holds, CanLoad, spell_equations, spell_storage}

-- what a text is laid out of
pub record Parts : Type 0 where
  pub entity : Outline
  pub signals : List (List ℕ)
  pub groups : List Group
  pub vars : List Name
  pub names : List Name
  pub equations : List Equation
  pub clock : Option Name
  pub registers : List Register

abbrev pub parts_layout : Parts → List Written
parts_layout p =
    entity_layout p.entity
    ++ (head_layout p.entity.name
    ++ (signals_layout p.signals
    ++ (groups_layout p.groups
    ++ (begin_layout
    ++ (equations_layout p.vars p.names p.equations
    ++ (storage_layout p.vars p.clock p.registers ++ last_layout))))))

-- the lines on which the declarations begin, the registers, the word `begin`, the statements behind it, and the blocks
abbrev pub declared_on : ℕ → Parts → ℕ
declared_on line p = line_of (line_of line (entity_layout p.entity)) (head_layout p.entity.name)

abbrev pub stored_on : ℕ → Parts → ℕ
stored_on line p = line_of (declared_on line p) (signals_layout p.signals)

abbrev pub begun_on : ℕ → Parts → ℕ
begun_on line p = line_of (line_of (stored_on line p) (groups_layout p.groups)) begin_layout

abbrev pub blocks_on : ℕ → Parts → ℕ
blocks_on line p = line_of (begun_on line p) (equations_layout p.vars p.names p.equations)

abbrev pub placed_parts : ℕ → Parts → SourceTree
placed_parts line p = record {
  entity = placed_entity line p.entity;
  declarations = record { signals = placed_signals (declared_on line p) p.signals ++ placed_groups (stored_on line p) p.groups };
  statements = placed_equations p.vars (begun_on line p) p.names p.equations ++ placed_storage p.vars (blocks_on line p) p.clock p.registers;
}

-- what is declared, one after the other
abbrev pub parts_entries : Parts → List Entry
parts_entries p = map port_entry (p.entity.first ∷ p.entity.others) ++ (map signal_entry p.signals ++ map port_entry (map declared_as p.groups))

-- what the statements may have
pub record CanBeStated (room n : ℕ) (p : Parts) : Type 0 where
  pub equations : All (λ e. Holds p.vars e.expr room) p.equations
  pub registers : All (λ r. CanLoad p.vars r room n) p.registers

-- ---- the architecture

spell_head : (name : List ℕ) (line : ℕ) (s : State) → Few s
    → Spells (architecture_head name) architecture_name
    (at (token.Keyword word.Architecture) line ∷ at (token.Identifier architecture_name) line ∷ at (token.Keyword word.Of) line ∷ at (token.Identifier name) line ∷ at (token.Keyword word.Is) line ∷ []) s s
unfolding architecture_head belonging code_of
spell_head name line s few =
    spell_word word.Architecture line architecture_name few
    (spell_then architecture_name architecture_name (spell_identifier architecture_name line s few)
    (spell_then tt architecture_name
    (spell_word word.Of line tt few
    (spell_lead form.Identifier (λ u. spells name (name_of u)) (at (token.Identifier name) line) tt refl (spells_step name s few)
    (spell_word word.Is line tt few (spell_nothing tt s))))
    (spell_nothing architecture_name s)))

spell_last : (name : List ℕ) (line : ℕ) (s : State) → Few s → Spells (repeated name) tt (at (token.Identifier name) line ∷ at (token.Sign sign.Semicolon) line ∷ []) s s
unfolding repeated code_of
spell_last name line s few =
    spell_left
    (spell_lead form.Identifier (λ u. spells name (name_of u)) (at (token.Identifier name) line) tt refl (spells_step name s few)
    (spell_sign sign.Semicolon line tt few (spell_nothing tt s)))

spell_declarations : (room : ℕ) (ss : List (List ℕ)) (gs : List Group) (line : ℕ) (s : State) → Few s → (room == 0) ≡ false → EntriesNew (map signal_entry ss ++ map port_entry (map declared_as gs)) s
    → Spells (declarations room) (record { signals = placed_signals line ss ++ placed_groups (line_of line (signals_layout ss)) gs })
    (placed line (signals_layout ss) ++ placed (line_of line (signals_layout ss)) (groups_layout gs)) s (with_entries (map port_entry (map declared_as gs)) (with_entries (map signal_entry ss) s))
unfolding declarations
spell_declarations room ss gs line s few deep new =
    let S = map signal_entry ss in
    let G = map port_entry (map declared_as gs) in
    let l = line_of line (signals_layout ss) in
    let s1 = with_entries S s in
    let all : List SignalGroup = placed_signals line ss ++ placed_groups l gs in
    let y : Declarations = record { signals = all } in
    spell_as (append-nil (placed line (signals_layout ss) ++ placed l (groups_layout gs)))
    (spell_then all y (spell_signals room ss line s few (new_front S G s new) (spell_groups room gs l s1 (few_entries S s few) deep (new_back S G s new)))
    (spell_nothing y (with_entries G s1)))

-- the statements between `begin` and `end`
spell_statements : (room n : ℕ) (p : Parts) (line behind end : ℕ) (s : State) → Few s → (room == 0) ≡ false → room - 1 ≡ suc n → CanBeStated room n p
    → Counted (statements room) (placed_equations p.vars behind p.names p.equations ++ placed_storage p.vars (line_of behind (equations_layout p.vars p.names p.equations)) p.clock p.registers)
    (at (token.Keyword word.Begin) line
    ∷ (placed behind (equations_layout p.vars p.names p.equations) ++ placed (line_of behind (equations_layout p.vars p.names p.equations)) (storage_layout p.vars p.clock p.registers))
    ++ (at (token.Keyword word.End) end ∷ [])) s
unfolding statements
spell_statements room n p line behind end s few deep deeper can =
    let b = line_of behind (equations_layout p.vars p.names p.equations) in
    let y : List StatementTree = placed_equations p.vars behind p.names p.equations ++ placed_storage p.vars b p.clock p.registers in
    let c = spell_equations p.vars p.names p.equations room behind (placed_storage p.vars b p.clock p.registers) (placed b (storage_layout p.vars p.clock p.registers)) s few deep can.equations
    (λ t f. spell_storage p.vars p.clock p.registers room n b t f deep deeper can.registers) in
    record {
      behind = c.behind;
      spelled = spell_word word.Begin line y few (spell_then y y c.spelled (spell_word word.End end y c.few (spell_nothing y c.behind)));
      few = c.few;
      same_names = c.same_names;
      same_bits = c.same_bits;
    }

regroup : (S G Q K E R : List PlacedToken) (b : PlacedToken) → (S ++ G) ++ ((b ∷ (Q ++ K) ++ E) ++ R) ≡ S ++ (G ++ (b ∷ Q ++ (K ++ (E ++ R))))
regroup S G Q K E R b =
    append_assoc S G ((b ∷ (Q ++ K) ++ E) ++ R)
    ∙ ap (λ (z : List PlacedToken). S ++ (G ++ (b ∷ z))) (append_assoc (Q ++ K) E R ∙ append_assoc Q K (E ++ R))

-- a whole text, and what is counted behind it
pub record Sourced (room : ℕ) (line : ℕ) (p : Parts) (s : State) : Type 0 where
  pub behind : State
  pub spelled : Spells (source room) (placed_parts line p) (placed line (parts_layout p)) s behind

pub spell_source : (room n : ℕ) (p : Parts) (line : ℕ) (s : State) → Few s → (room == 0) ≡ false → room - 1 ≡ suc n → (room - 1 == 0) ≡ false → EntriesNew (parts_entries p) s → CanBeStated room n p
    → Sourced room line p s
unfolding source architecture
spell_source room n p line s few deep deeper deep2 new can =
    let y = placed_parts line p in
    let ports = map port_entry (p.entity.first ∷ p.entity.others) in
    let S = map signal_entry p.signals in
    let G = map port_entry (map declared_as p.groups) in
    let s1 = with_entries ports s in
    let s3 = with_entries G (with_entries S s1) in
    let f1 = few_entries ports s few in
    let f3 = few_entries G (with_entries S s1) (few_entries S s1 f1) in
    let n0 = new_front ports (S ++ G) s new in
    let n1 = new_back ports (S ++ G) s new in
    let e = placed_entity line p.entity in
    let l = line_behind (line_of line (entity_layout p.entity)) in
    let d = line_behind l in
    let g = line_of d (signals_layout p.signals) in
    let h = line_of g (groups_layout p.groups) in
    let b = line_behind h in
    let k = line_of b (equations_layout p.vars p.names p.equations) in
    let end = line_of k (storage_layout p.vars p.clock p.registers) in
    let c = spell_statements room n p h b end s3 f3 deep deeper can in
    let tS = placed d (signals_layout p.signals) in
    let tG = placed g (groups_layout p.groups) in
    let tQ = placed b (equations_layout p.vars p.names p.equations) in
    let tK = placed k (storage_layout p.vars p.clock p.registers) in
    let begin : PlacedToken = at (token.Keyword word.Begin) h in
    let tE : List PlacedToken = at (token.Keyword word.End) end ∷ [] in
    let tL : List PlacedToken = at (token.Identifier architecture_name) end ∷ at (token.Sign sign.Semicolon) end ∷ [] in
    let head : List PlacedToken = at (token.Keyword word.Architecture) l ∷ at (token.Identifier architecture_name) l ∷ at (token.Keyword word.Of) l ∷ at (token.Identifier p.entity.name) l ∷ at (token.Keyword word.Is) l ∷ [] in
    let w4 : List Written = storage_layout p.vars p.clock p.registers ++ last_layout in
    let w3 : List Written = equations_layout p.vars p.names p.equations ++ w4 in
    let w2 : List Written = groups_layout p.groups ++ (begin_layout ++ w3) in
    let rest : placed d (signals_layout p.signals ++ w2) ≡ (tS ++ tG) ++ ((begin ∷ (tQ ++ tK) ++ tE) ++ tL) =
    placed_append d (signals_layout p.signals) w2
    ∙ ap (λ (z : List PlacedToken). tS ++ z) (placed_append g (groups_layout p.groups) (begin_layout ++ w3))
    ∙ ap (λ (z : List PlacedToken). tS ++ (tG ++ (begin ∷ z))) (placed_append b (equations_layout p.vars p.names p.equations) w4)
    ∙ ap (λ (z : List PlacedToken). tS ++ (tG ++ (begin ∷ tQ ++ z))) (placed_append k (storage_layout p.vars p.clock p.registers) last_layout)
    ∙ sym (regroup tS tG tQ tK tE tL begin) in
    let all = placed line (entity_layout p.entity) in
    let laid : placed line (parts_layout p) ≡ all ++ (head ++ ((tS ++ tG) ++ ((begin ∷ (tQ ++ tK) ++ tE) ++ tL))) =
    placed_append line (entity_layout p.entity) (head_layout p.entity.name ++ (signals_layout p.signals ++ w2))
    ∙ ap (λ (z : List PlacedToken). all ++ (head ++ z)) rest in
    record {
      behind = c.behind;
      spelled =
          spell_as (sym laid)
          (spell_then e y (spell_to (with_port_entries (p.entity.first ∷ p.entity.others) s) (spell_entity room p.entity line s few deep deep2 (ports_new (p.entity.first ∷ p.entity.others) s n0)))
          (spell_then architecture_name y (spell_head p.entity.name l s1 f1)
          (spell_then y.declarations y (spell_declarations room p.signals p.groups d s1 f1 deep n1)
          (spell_then y.statements y c.spelled
          (spell_then tt y (spell_last architecture_name end c.behind c.few) (spell_nothing y c.behind))))));
    }
