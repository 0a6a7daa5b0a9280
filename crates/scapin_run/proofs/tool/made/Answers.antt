use Rattle.std.proofs.Common.{ℕ, List, false, Err, sym, subst, refl}
use Rattle.vst_io.specs.Text.{IsVstRefusal}
use Rattle.vst_laws.proofs.Supplies.{lists_supplies}
use Rattle.path_io.specs.PathText.{IsPathTextRefusal}
use Rattle.tool_drive.specs.Refusals.{refused_file}
use Rattle.tool_drive.specs.declared.tool.Refusal.{Refusal}
use Rattle.tool_drive.specs.Table.{IsJudged}
use Rattle.scan_checks.specs.Refused.{IsScanRefusal}
use Rattle.scan_theory.specs.Scan.{IsScanned}
use Rattle.scapin.specs.Inserted.{IsAble, IsScanPath}
use Rattle.scapin_run.specs.Scapin.{bad_netlist, bad_path, texts, Makes}
use Rattle.scapin_run.proofs.Refusing.{by_scan}
use Rattle.scapin_run.proofs.tool.made.Goals as goal

pub returns-in-Err : goal.returns-in-Err
returns-in-Err c = λ catal cells library.
    refused_file (Makes c.args.command.now (texts c.args.source.now c.args.path.now catal cells)) c.args.command.now.source (IsVstRefusal c.args.source.now c.in_ok-table.table) c.in-Err.error
    c.refused.result c.plain.result c.in-Err.ensures.refused c.refused.ensures c.plain.ensures (λ o. (refl, bad_netlist c.args.library.now c.in_ok-table.table library c.in_ok-table.ensures.table o))

pub returns-in-Err-read_path : goal.returns-in-Err-read_path
returns-in-Err-read_path c = λ catal cells library.
    refused_file (Makes c.args.command.now (texts c.args.source.now c.args.path.now catal cells)) c.args.command.now.path (IsPathTextRefusal c.args.path.now) c.in-Err-read_path.error
    c.refused-in-Err-read_path.result c.plain-in-Err-read_path.result c.in-Err-read_path.ensures.refused c.refused-in-Err-read_path.ensures c.plain-in-Err-read_path.ensures
    (λ o. (
      refl,
      bad_path c.args.library.now c.in_ok-table.table c.in-Ok.netlist (record {
        library = library;
        pins = c.in_ok-table.ensures.table;
        netlist = c.in-Ok.ensures.accepted;
        met = c.in-Ok.ensures.condition (lists_supplies c.args.library.now false c.in_ok-table.table c.in_ok-table.ensures.table);
      }) o,
    ))

pub insert_scan-requires-clause-scannable : goal.insert_scan-requires-clause-scannable
insert_scan-requires-clause-scannable c = record {
  table = c.in_ok-table.table;
  listed = c.in_ok-table.ensures.table;
  met = c.in-Ok.ensures.condition (lists_supplies c.args.library.now false c.in_ok-table.table c.in_ok-table.ensures.table);
}

pub insert_scan-requires-clause-room : goal.insert_scan-requires-clause-room
insert_scan-requires-clause-room c =
    c.scapin_law.ensures.room c.requires.0 c.args.source.now c.requires.1 c.args.library.now c.in_ok-table.table c.in-Ok.netlist c.requires.2 c.in_ok-table.ensures.table
    c.in-Ok.ensures.accepted (c.in-Ok.ensures.condition (lists_supplies c.args.library.now false c.in_ok-table.table c.in_ok-table.ensures.table))

pub returns-in-Err-insert_scan : goal.returns-in-Err-insert_scan
returns-in-Err-insert_scan c = λ catal cells library.
    subst (λ (r : Refusal). IsJudged (Makes c.args.command.now (texts c.args.source.now c.args.path.now catal cells)) (Err r)) (sym c.plain-in-Err-insert_scan.ensures)
    (by_scan c.args.command.now (texts c.args.source.now c.args.path.now catal cells) c.args.library.now c.in_ok-table.table c.in-Ok.netlist c.in-Ok-read_path.path
    (record {
      source = record {
        library = library;
        pins = c.in_ok-table.ensures.table;
        netlist = c.in-Ok.ensures.accepted;
        met = c.in-Ok.ensures.condition (lists_supplies c.args.library.now false c.in_ok-table.table c.in_ok-table.ensures.table);
      };
      path = c.in-Ok-read_path.ensures.read;
    })
    c.in-Err-insert_scan.error c.scan_status.result
    (subst (λ (p : List (List ℕ)). IsScanRefusal c.args.library.now c.in-Ok.netlist p c.in-Err-insert_scan.error) c.deref.ensures.value c.in-Err-insert_scan.ensures.refused) c.scan_status.ensures)

pub product-requires : goal.product-requires
product-requires c =
    let met = c.in-Ok.ensures.condition (lists_supplies c.args.library.now false c.in_ok-table.table c.in_ok-table.ensures.table) in
    c.scapin_law.ensures.writable c.requires.0 c.args.source.now c.requires.1 c.args.library.now c.in_ok-table.table c.in-Ok.netlist c.in-Ok-insert_scan.scanned c.deref.result.now
    c.requires.2 c.in_ok-table.ensures.table c.in-Ok.ensures.accepted met c.in-Ok-insert_scan.ensures.able.free c.in-Ok-insert_scan.ensures.few
    c.in-Ok-insert_scan.ensures.scanned (c.in-Ok-insert_scan.ensures.meets c.in_ok-table.table c.in_ok-table.ensures.table met)

pub returns : goal.returns
returns c = λ catal cells library.
    let met = c.in-Ok.ensures.condition (lists_supplies c.args.library.now false c.in_ok-table.table c.in_ok-table.ensures.table) in
    record {
      l = c.args.library.now;
      table = c.in_ok-table.table;
      n = c.in-Ok.netlist;
      f = c.in-Ok-read_path.path;
      read = record {
        source = record { library = library; pins = c.in_ok-table.ensures.table; netlist = c.in-Ok.ensures.accepted; met = met };
        path = c.in-Ok-read_path.ensures.read;
      };
      able = subst (λ (p : List (List ℕ)). IsAble c.args.library.now c.in-Ok.netlist p) c.deref.ensures.value c.in-Ok-insert_scan.ensures.able;
      r = c.in-Ok-insert_scan.scanned;
      sound = c.in-Ok-insert_scan.ensures.sound;
      scanned = subst (λ (p : List (List ℕ)). IsScanned c.in-Ok.netlist c.args.library.now p c.in-Ok-insert_scan.scanned) c.deref.ensures.value c.in-Ok-insert_scan.ensures.scanned;
      met = c.in-Ok-insert_scan.ensures.meets c.in_ok-table.table c.in_ok-table.ensures.table met;
      scans = subst (λ (p : List (List ℕ)). IsScanPath c.args.library.now p c.in-Ok.netlist c.in-Ok-insert_scan.scanned) c.deref.ensures.value c.in-Ok-insert_scan.ensures.scans;
      written = c.in_ok-written.ensures;
    }
