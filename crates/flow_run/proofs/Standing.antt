-- From what was read to the files themselves, and back.
use Rattle.std.proofs.Common.{◌≡◌, ℕ, List, [], ◌∷◌, get_or, length, Option, refl, ◌∙◌, ap, leb}
use Rattle.std.proofs.lemmas.Bool.{cond-true, le-leb}
use Rattle.std.specs.FinMap.{get}
use Rattle.vlsi_shelf.specs.Files.{Files}
use Rattle.catal.specs.Cells.{cells_in}
use Rattle.cell_lib.specs.Files.{catal_name, cell_files}
use Rattle.flow_words.specs.declared.words.FlowCommand.{FlowCommand}
use Rattle.tool_drive.specs.declared.tool.Wanted.{Wanted}
use Rattle.tool_drive.specs.Plan.{inputs, got, long, limited, held, gather, reading}
use Rattle.tool_drive.specs.Held.{Holds, AreHad, are_had, holds}
use Rattle.flow_run.specs.Flow.{flow_plan}
use Rattle.flow_run.specs.Causes.{Stand}

-- ---- from what was read

two_had : (files : Files) (a b : List ℕ) (read : List (List ℕ)) → AreHad files (limited a ∷ limited b ∷ []) read → Holds files a (get_or read 0 []) × Holds files b (get_or read 1 [])
two_had files a b [] h = absurd h
two_had files a b (x ∷ []) h = absurd h.1
two_had files a b (x ∷ y ∷ []) h = (holds files a x h.0, holds files b y h.1.0)
two_had files a b (x ∷ y ∷ z ∷ rest) h = absurd h.1.1

pub stood : (files : Files) (c : FlowCommand) (first more : List (List ℕ)) → gather files (flow_plan c).first ≡ got first
    → gather files ((flow_plan c).more first) ≡ got more → Stand files c (get_or first 0 []) (get_or first 1 []) more
stood files c first more g h =
    let a = two_had files c.source (catal_name c.library) first (are_had files (limited c.source ∷ limited (catal_name c.library) ∷ []) first g) in
    record {
      source_is = a.0;
      catal_is = a.1;
      cells_are = are_had files (cell_files c.library (cells_in (get_or first 1 []))) more h;
    }

-- ---- and back

pub held_is : (files : Files) (name bytes : List ℕ) → Holds files name bytes → held (get files name) (limited name) ≡ got bytes
held_is files name bytes h =
    ap (λ (o : Option (List ℕ)). held o (limited name)) h.is ∙ cond-true (leb (length bytes) 1048576) (got bytes) (long 1048576) (le-leb (length bytes) 1048576 h.fits)

had_gathers : (files : Files) (ws : List Wanted) (read : List (List ℕ)) → AreHad files ws read → gather files ws ≡ got read
had_gathers files [] [] h = refl
had_gathers files [] (x ∷ rest) h = absurd h
had_gathers files (w ∷ ws) [] h = absurd h
had_gathers files (w ∷ ws) (x ∷ rest) h = rw (h.0, had_gathers files ws rest h.1) refl

pub reads : (files : Files) (c : FlowCommand) (source catal : List ℕ) (cells : List (List ℕ)) → Stand files c source catal cells
    → reading files (flow_plan c) ≡ got (inputs (source ∷ catal ∷ []) cells)
reads files c source catal cells h =
    let one = held_is files c.source source h.source_is in
    let two = held_is files (catal_name c.library) catal h.catal_is in
    let more = had_gathers files (cell_files c.library (cells_in catal)) cells h.cells_are in
    rw (one, two, more) refl
