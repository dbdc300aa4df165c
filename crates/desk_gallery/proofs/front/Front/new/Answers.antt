use Rattle.{std.proofs.Common.{List, ap, sym, ◌∙◌, subst, arith, length}, desk_gallery.{specs.claim.{After.after, Working.AreAccepted}, proofs.Pasts.prefix_self}}
use Rattle.{desk_model.specs.declared.command.Command.Command, desk_gallery.proofs.Running.has_run_none}
use mathlib.Core.List.{IsPrefix}
use Rattle.desk_gallery.proofs.front.Front.new.Goals as goal

pub invariant_of-result : goal.invariant_of-result
invariant_of-result g c =
    let none = c.requires.none in
    let same = ap (λ (s : List Command × List Command). s.1) none ∙ sym (ap (λ (s : List Command × List Command). s.0) none) in
    let ran = has_run_none g.J.GalleryId.begins g.J.GalleryId.asked c.args.clerk c.args.shower.0 c.args.books.halted.total c.requires.starts.begins (ap (λ (s : List Command × List Command). s.0) none) c.requires.books.1 in (
      record {
        desk = c.requires.starts.same ∙ ap (λ (s : List Command × List Command). after g.J.GalleryId.first s.0) (sym none);
        none = λ off. same;
        few = omega (arith, ap length same);
        begins = subst (λ (l : List Command). IsPrefix c.args.shower.0 l) (sym same) (prefix_self c.args.shower.0);
        accepted = subst (λ (s : List Command × List Command). AreAccepted g.J.GalleryId.first s.1) (sym none) tt;
      },
      c.requires.starts.kept,
      ran.0,
      ran.1,
      c.requires.books.0 ∙ sym (ap (λ (s : List Command × List Command). length s.0) none),
    )
