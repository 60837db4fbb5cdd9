use Rattle.std.proofs.Common.{◌∙◌, ap, map, subst, sym, take, List}
use Rattle.std.proofs.lemmas.List.{take-map}
use Rattle.std.proofs.lemmas.List.Elements.{All-take}
use Rattle.std.specs.List.{All}
use Rattle.sc_value.specs.declared.texts.Span.{Span}
use Rattle.sc_value.specs.Spans.{IsPart, part_at}
use Rattle.sc_value.proofs.builder.TextsBuilder.truncate.Goals as goal

pub invariant_of-self : goal.invariant_of-self
invariant_of-self c =
    let P : List Span → Type 0 = λ spans. All (IsPart c.self.inside.bytes.items) spans in
    record {
      parts = subst P (sym c.truncate.ensures.items)
          (All-take (IsPart c.self.inside.bytes.items) c.args.count c.self.inside.spans.items
          c.self.invariant.parts);
      within = c.self.invariant.within;
      small = c.self.invariant.small;
      utf8 = c.self.invariant.utf8;
    }

pub returns-clause-texts : goal.returns-clause-texts
returns-clause-texts c =
    let f = part_at c.self.inside.bytes.items in
    ap (map f) c.truncate.ensures.items
    ∙ sym (take-map f c.args.count c.self.inside.spans.items)
    ∙ ap (λ w. take c.args.count w.texts) c.self.view_is
