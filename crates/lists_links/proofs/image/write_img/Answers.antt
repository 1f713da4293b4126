use Rattle.spec.specs.Md.Elements.Image.{write_img, image_of}
use Rattle.tree.specs.NodeFields.{attrs_of}
use Rattle.text.specs.Texts.{bytes}
use Rattle.text.proofs.Texts.{as_step, kept}
use Rattle.lists_links.proofs.Values.{some_step, no_step}
use Rattle.lists_links.proofs.image.write_img.Goals as goal

pub returns-in-Some : goal.returns-in-Some
unfolding write_img
returns-in-Some c =
    as_step (some_step (image_of (attrs_of c.args.field)) (bytes c.args.text.now) c.in-Some.ensures) c.push_image.ensures

pub returns-in-None : goal.returns-in-None
unfolding write_img
returns-in-None c =
    as_step (no_step (image_of (attrs_of c.args.field)) (bytes c.args.text.now) c.in-None.ensures) (kept c.args.text.now)
