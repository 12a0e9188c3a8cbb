use Rattle.std.proofs.Common.{◌∙◌, inl, sym, subst, map, refl, List}
use Rattle.indexmap.proofs.CallerLemmas.{insert_entry-new}
use Rattle.run_model.specs.Edges.{Edge}
use Rattle.authority.specs.Glue.Keys.{key_eq, entry_edge}
use Rattle.authority.specs.Glue.EdgeTables.{AddsFirst, edge_at}
use Rattle.authority.proofs.Keeping.{added, looked, none_from}
use Rattle.authority.proofs.witnesses.Witnesses.add.Goals as goal
use Rattle.authority.proofs.witnesses.Witnesses.add.Goals.{then-not-contains_key+in_ok-insert, else-not-contains_key}

pub returns : goal.returns
returns c =
    let old = c.self.inside.entries in
    let k = c.in_ok-key.key in
    let e = edge_at c.args.vat c.args.cap.now c.args.at_record c.args.place in
    elim c.if-not-contains_key.branch [
      | then-not-contains_key+in_ok-insert w ↦
          let none = sym c.contains_key.ensures ∙ w.if-not-contains_key.true in
          rw w.entries-is
          (subst (λ (l : List Edge). AddsFirst e l (map entry_edge w.insert.new.self.entries)) c.self.view_is
          (added c.args.vat c.args.cap.now c.args.at_record c.args.place k old.entries w.insert.new.self.entries c.in_ok-key.ensures none
          (w.in_ok-insert.ensures.entries ∙ insert_entry-new key_eq old k (c.args.at_record, c.args.place) (none_from _ none))))
      | else-not-contains_key w ↦
          let some = sym c.contains_key.ensures ∙ w.if-not-contains_key.false in
          rw w.entries-is
          (subst (λ (l : List Edge). AddsFirst e l (map entry_edge old.entries)) c.self.view_is
          (inl (looked c.args.vat c.args.cap.now c.args.at_record c.args.place k old.entries c.in_ok-key.ensures some, refl)))
    ]
