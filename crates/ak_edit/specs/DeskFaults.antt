-- What the desk answers when a keeper, a template or a page refuses: running out of memory has one form.
use Rattle.ak_keep.specs.declared.keepers.KeepFault.{KeepFault}
use Rattle.ak_keep.specs.declared.keepers.KeepFault.TheVariants as kept
use Rattle.ak_template.specs.declared.faces.PageFault.{PageFault}
use Rattle.ak_template.specs.declared.faces.PageFault.TheVariants as pages
use Rattle.ak_template.specs.declared.faults.TemplateFault.{TemplateFault}
use Rattle.ak_template.specs.declared.faults.TemplateFault.TheVariants as templates
use Rattle.ak_edit.specs.declared.desk_faults.DeskFault.{DeskFault}
use Rattle.ak_edit.specs.declared.desk_faults.DeskFault.TheVariants as faults

-- the desk's word for a refusal of the keeper
abbrev pub of_keep_fault : KeepFault → DeskFault
of_keep_fault kept.Failed = faults.Failed
of_keep_fault kept.Memory = faults.Memory

-- the desk's word for a side of a template that can't be read
abbrev pub of_template_fault : TemplateFault → DeskFault
of_template_fault (templates.Unclosed place) = faults.Template (templates.Unclosed place)
of_template_fault (templates.WrongClose place) = faults.Template (templates.WrongClose place)
of_template_fault (templates.EmptyTag place) = faults.Template (templates.EmptyTag place)
of_template_fault (templates.TooDeep place) = faults.Template (templates.TooDeep place)
of_template_fault templates.Memory = faults.Memory

-- the desk's word for a page that can't be made
abbrev pub of_page_fault : PageFault → DeskFault
of_page_fault (pages.NoField name) = faults.Page (pages.NoField name)
of_page_fault (pages.NoFilter name) = faults.Page (pages.NoFilter name)
of_page_fault pages.Memory = faults.Memory
