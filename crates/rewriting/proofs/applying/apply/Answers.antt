-- `applying::apply` meets its contract: where none of the refusals 8 to 11 applies, the change fits.
use Rattle.std.proofs.Common.{sym, ◌∙◌}
use Rattle.rewriting.proofs.applying.apply.Goals as goal

pub rewrite-requires : goal.rewrite-requires
rewrite-requires c = record {
  sound = c.requires;
  fields = sym c.fields_fit.ensures ∙ c.if-not-fields_fit.false;
  form = sym c.has_form.ensures ∙ c.if-not-has_form.false;
  few = rw c.inserted-more.ensures at c.if-counts-more-gt-MOST_GATES.false;
  room = rw c.inserted-more.ensures at c.if-s-counts.false;
}
